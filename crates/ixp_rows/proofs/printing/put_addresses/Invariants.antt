use Rattle.std.proofs.Common.{◌≡◌, ◌++◌, drop, flat_map}
use Rattle.ixp_rows_lines.specs.Lines.{address_line}
use Rattle.ixp_registry.specs.Registries.{addresses_of}
use Rattle.ixp_rows.specs.Texts.{lines_by}
use Rattle.ixp_rows.proofs.printing.put_addresses.Given as goal

abbrev pub invariant-loop-interface : goal.invariant-loop-interface
invariant-loop-interface l =
    l.out.items ++ lines_by address_line (flat_map addresses_of (drop l.interface-index l.interfaces)) ≡ l.fn.out.items ++ lines_by address_line (flat_map addresses_of l.interfaces)
