use Rattle.std.proofs.Common.{◌≡◌, ◌++◌, length}
use Rattle.ixp_policy.specs.Tags.{chosen}
use Rattle.ixp_policy.proofs.findings.push_chosen.Given as goal

abbrev pub invariant-lines : goal.invariant-lines
invariant-lines l = l.out.items ++ chosen l.left ≡ l.fn.out.items ++ chosen l.fn.lines

abbrev pub decreases-lines : goal.decreases-lines
decreases-lines l = length l.left
