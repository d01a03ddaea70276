use Rattle.std.proofs.Common.{◌≡◌, ◌++◌, drop, map}
use Rattle.ixp_store_damage.specs.Placing.{placed_entry, ref_entry}
use Rattle.ixp_store_damage.proofs.sections.add_rows.Given as goal

abbrev pub invariant-loop-placed : goal.invariant-loop-placed
invariant-loop-placed g l = map ref_entry l.ordered.items ++ map placed_entry (drop l.placed-index l.rows) ≡ map ref_entry l.fn.ordered.items ++ map placed_entry l.rows
