use Rattle.std.proofs.Common.{◌≡◌, List, length, map}
use Rattle.ixp_io.specs.Tables.{row_entry}
use Rattle.ixp_store_rows.specs.Names.{Entry}
use Rattle.ixp_store_damage.specs.Walking.{FloorsNoted, IsCounted, KeptNoted}
use Rattle.ixp_store_damage.proofs.kept.behind_numbers.Given as goal

abbrev pub invariant-rows : goal.invariant-rows
invariant-rows l =
    (es : List Entry) → es ≡ map row_entry l.fn.rows → IsCounted es l.fn.count → FloorsNoted 19 es (map row_entry l.fn.first) l.fn.floors → KeptNoted es (map row_entry l.left) l.fn.floors l.run

abbrev pub decreases-rows : goal.decreases-rows
decreases-rows l = length l.left
