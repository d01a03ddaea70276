use Rattle.std.proofs.Common.{◌≡◌, length}
use Rattle.ixp_registry.specs.Sessions.{asked}
use Rattle.ixp_steer.proofs.rules.asked.Given as goal

abbrev pub invariant-rules : goal.invariant-rules
invariant-rules l = asked l.left l.rs.0 l.net l.to.0 ≡ asked l.fn.rules l.rs.0 l.net l.to.0

abbrev pub decreases-rules : goal.decreases-rules
decreases-rules l = length l.left
