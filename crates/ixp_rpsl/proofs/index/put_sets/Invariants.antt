use Rattle.std.proofs.Common.{◌≡◌, ◌++◌, length}
use Rattle.ixp_rpsl.specs.Expansion.{sets_in}
use Rattle.ixp_rpsl.proofs.index.put_sets.Given as goal

abbrev pub invariant-items : goal.invariant-items
invariant-items l = l.names ++ sets_in l.left ≡ l.fn.names ++ sets_in l.fn.items

abbrev pub decreases-items : goal.decreases-items
decreases-items l = length l.left
