use Rattle.std.proofs.Common.{◌≡◌, List, length, map}
use Rattle.ixp_io.specs.Tables.{row_entry}
use Rattle.ixp_store_rows.specs.Names.{Entry}
use Rattle.ixp_store_damage.specs.Walking.{FloorsNoted, Reached}
use Rattle.ixp_store_damage.proofs.kept.floors.Given as goal

abbrev pub invariant-rows : goal.invariant-rows
invariant-rows l = (es : List Entry) → es ≡ map row_entry l.fn.rows → Reached 18 18 es (map row_entry l.fn.first) → FloorsNoted 18 es (map row_entry l.left) l.kept

abbrev pub decreases-rows : goal.decreases-rows
decreases-rows l = length l.left
