use Rattle.ixp_build_demo.proofs.AfterRequests.{Following}
use Rattle.ixp_build_demo.proofs.following.follow_all.Given as goal

abbrev pub invariant-each : goal.invariant-each
invariant-each l = Following l.fn.state l.count l.state l.bundle l.parts l.done l.left

abbrev pub decreases-each : goal.decreases-each
decreases-each l = l.left
