use Rattle.std.proofs.Common.{◌≡◌, length}
use Rattle.std.specs.Prelude.{find}
use Rattle.ixp_policy.proofs.table.first_that_holds.Given as goal

abbrev pub invariant-lines : goal.invariant-lines
invariant-lines l = find (λ x. x.holds) l.left ≡ find (λ x. x.holds) l.fn.lines

abbrev pub decreases-lines : goal.decreases-lines
decreases-lines l = length l.left
