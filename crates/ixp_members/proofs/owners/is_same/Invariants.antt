use Rattle.std.proofs.Common.{◌≡◌, ◌&&◌, length}
use Rattle.ixp_num_tables.specs.Tables.{same}
use Rattle.ixp_members.proofs.owners.is_same.Given as goal

abbrev pub invariant-bytes : goal.invariant-bytes
invariant-bytes l = ((l.is_same && same l.left l.others) ≡ same l.fn.kept l.fn.given) × (length l.left ≡ length l.others)

abbrev pub decreases-bytes : goal.decreases-bytes
decreases-bytes l = length l.left
