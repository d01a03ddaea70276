use Rattle.std.proofs.Common.{◌≡◌, length}
use Rattle.ixp_policy.specs.Import.{is_reached}
use Rattle.ixp_policy.proofs.table.is_reached.Given as goal

abbrev pub invariant-lines : goal.invariant-lines
invariant-lines l = is_reached l.reason l.left ≡ is_reached l.reason l.fn.lines

abbrev pub decreases-lines : goal.decreases-lines
decreases-lines l = length l.left
