use Rattle.std.proofs.Common.{◌≡◌, ◌++◌, length}
use Rattle.ixp_num_tables.proofs.table.copies.Given as goal

abbrev pub invariant-each : goal.invariant-each
invariant-each g l = l.copies.items ++ l.left ≡ l.fn.rows

abbrev pub decreases-each : goal.decreases-each
decreases-each g l = length l.left
