use Rattle.std.proofs.Common.{drop, map}
use Rattle.ixp_store_damage.specs.Placing.{ref_entry}
use Rattle.ixp_store_damage.proofs.BrokenLines.{Skips}
use Rattle.ixp_store_damage.proofs.breaking.row_at.Given as goal

abbrev pub invariant-loop-row : goal.invariant-loop-row
invariant-loop-row l = Skips (map ref_entry l.rows) (map ref_entry (drop l.row-index l.rows)) l.fn.line l.skip
