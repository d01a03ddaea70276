use Rattle.std.proofs.Common.{◌≡◌, ◌++◌, drop, map}
use Rattle.ixp_store_damage.specs.Damages.{entries_text}
use Rattle.ixp_store_damage.specs.Placing.{ref_entry}
use Rattle.ixp_store_damage.proofs.breaking.put_rows.Given as goal

abbrev pub invariant-loop-row : goal.invariant-loop-row
invariant-loop-row l = l.text.items ++ entries_text (map ref_entry (drop l.row-index l.rows)) ≡ l.fn.text.items ++ entries_text (map ref_entry l.rows)
