use Rattle.std.proofs.Common.{◌≡◌, ◌↔◌, length, map}
use Rattle.ixp_io.specs.Tables.{row_entry}
use Rattle.ixp_store_rows.specs.States.{set_row}
use Rattle.ixp_store_load.proofs.checking.are_set.Given as goal

abbrev pub invariant-each : goal.invariant-each
invariant-each l = l.changes ≡ map set_row (map row_entry l.left) ↔ l.fn.batch ≡ map set_row (map row_entry l.fn.rows)

abbrev pub decreases-each : goal.decreases-each
decreases-each l = length l.changes
