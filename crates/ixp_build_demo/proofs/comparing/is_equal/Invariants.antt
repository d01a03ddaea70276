use Rattle.std.proofs.Common.{length}
use Rattle.ixp_build_demo.proofs.comparing.is_equal.Given as goal

abbrev pub decreases-each : goal.decreases-each
decreases-each l = length l.left
