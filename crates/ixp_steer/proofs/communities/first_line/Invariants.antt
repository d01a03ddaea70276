use Rattle.std.proofs.Common.{◌≡◌, length}
use Rattle.ixp_lang.specs.Steering.{first_line}
use Rattle.ixp_steer.proofs.communities.first_line.Given as goal

abbrev pub invariant-lines : goal.invariant-lines
invariant-lines g l = first_line l.left l.other ≡ first_line l.fn.lines l.other

abbrev pub decreases-lines : goal.decreases-lines
decreases-lines g l = length l.left
