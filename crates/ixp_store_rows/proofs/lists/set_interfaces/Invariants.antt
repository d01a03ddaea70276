use Rattle.std.proofs.Common.{◌≡◌, ◌++◌, drop, map}
use Rattle.ixp_registry.specs.Registries.{bare}
use Rattle.ixp_rows_lines.specs.Lines.{interface_line}
use Rattle.ixp_store_rows.specs.Names.{line_row}
use Rattle.ixp_store_rows.specs.States.{set_row}
use Rattle.ixp_store_rows.proofs.lists.set_interfaces.Given as goal

abbrev pub invariant-loop-interface : goal.invariant-loop-interface
invariant-loop-interface l = l.batch.items ++ map set_row (map (λ i. line_row (interface_line (bare i))) (drop l.interface-index l.interfaces)) ≡ l.fn.batch.items ++ map set_row (map (λ i. line_row (interface_line (bare i))) l.interfaces)
