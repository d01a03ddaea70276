use Rattle.std.proofs.Common.{◌≡◌, ◌++◌, length, map}
use Rattle.std.specs.Prelude.{filter}
use Rattle.ixp_registry.specs.Sessions.{is_session}
use Rattle.ixp_policy.specs.Fates.{is_other, sent_at, sent_to_others}
use Rattle.ixp_policy.specs.Views.{session_of}
use Rattle.ixp_policy.proofs.fates.sent_to_others.Given as goal

abbrev pub invariant-interfaces : goal.invariant-interfaces
invariant-interfaces l =
    l.sent ++ map (sent_at l.registry l.router (session_of l.sender) l.route) (filter (is_other (session_of l.sender)) (filter (is_session l.registry l.router) l.left))
    ≡ sent_to_others l.registry l.router (session_of l.sender) l.route

abbrev pub decreases-interfaces : goal.decreases-interfaces
decreases-interfaces l = length l.left
