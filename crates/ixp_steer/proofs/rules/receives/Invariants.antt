use Rattle.std.proofs.Common.{◌≡◌, length}
use Rattle.ixp_registry.specs.Sessions.{receives}
use Rattle.ixp_steer.proofs.rules.receives.Given as goal

abbrev pub invariant-rules : goal.invariant-rules
invariant-rules l = receives l.left l.net l.sender.0 ≡ receives l.fn.rules l.net l.sender.0

abbrev pub decreases-rules : goal.decreases-rules
decreases-rules l = length l.left
