use Rattle.std.proofs.Common.{◌≡◌, ◌++◌, drop, map}
use Rattle.ixp_rows_lines.specs.Lines.{interface_line}
use Rattle.ixp_registry.specs.Registries.{bare}
use Rattle.ixp_rows.specs.Texts.{lines_by}
use Rattle.ixp_rows.proofs.printing.put_interfaces.Given as goal

abbrev pub invariant-loop-interface : goal.invariant-loop-interface
invariant-loop-interface l =
    l.out.items ++ lines_by interface_line (map bare (drop l.interface-index l.interfaces)) ≡ l.fn.out.items ++ lines_by interface_line (map bare l.interfaces)
