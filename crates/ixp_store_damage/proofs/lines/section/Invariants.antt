use Rattle.std.proofs.Common.{suc, length, List, map}
use Rattle.ixp_io.specs.Tables.{row_entry}
use Rattle.ixp_rows_lines.specs.Lines.{place_of}
use Rattle.ixp_store_rows.specs.Names.{Entry}
use Rattle.ixp_store_damage.specs.Walking.{Reached}
use Rattle.ixp_store_damage.proofs.lines.section.Given as goal

abbrev pub invariant-rows : goal.invariant-rows
invariant-rows g l =
    (es : List Entry) → Reached (place_of g.R.Lined.row_kind) (place_of g.R.Lined.row_kind) es (map row_entry l.fn.rows)
    → Reached (suc (place_of g.R.Lined.row_kind)) (place_of g.R.Lined.row_kind) es (map row_entry l.left)

abbrev pub decreases-rows : goal.decreases-rows
decreases-rows g l = length l.left
