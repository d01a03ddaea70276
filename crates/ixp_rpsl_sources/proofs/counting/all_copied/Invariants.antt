use Rattle.std.proofs.Common.{◌≡◌, ◌++◌, length}
use Rattle.ixp_rpsl_sources.proofs.counting.all_copied.Given as goal

abbrev pub invariant-items : goal.invariant-items
invariant-items l = l.copies ++ l.left ≡ l.fn.items

abbrev pub decreases-items : goal.decreases-items
decreases-items l = length l.left
