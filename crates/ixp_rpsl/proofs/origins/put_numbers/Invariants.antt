use Rattle.std.proofs.Common.{◌≡◌, ◌++◌, length}
use Rattle.ixp_rpsl.specs.Origins.{numbers_in}
use Rattle.ixp_rpsl.proofs.origins.put_numbers.Given as goal

abbrev pub invariant-items : goal.invariant-items
invariant-items l = l.numbers.items ++ numbers_in l.left ≡ l.fn.numbers.items ++ numbers_in l.fn.items

abbrev pub decreases-items : goal.decreases-items
decreases-items l = length l.left
