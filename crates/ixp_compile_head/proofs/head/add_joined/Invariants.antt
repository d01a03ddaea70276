use Rattle.std.proofs.Common.{◌≡◌, ◌++◌, length}
use Rattle.ixp_compile.specs.Header.{joined_to}
use Rattle.ixp_compile_head.proofs.head.add_joined.Given as goal

abbrev pub invariant-each : goal.invariant-each
invariant-each l = l.joined ++ joined_to l.low l.high l.left ≡ l.fn.joined ++ joined_to l.first l.last l.ranges

abbrev pub decreases-each : goal.decreases-each
decreases-each l = length l.left
