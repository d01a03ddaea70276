use Rattle.std.proofs.Common.{sym}
use Rattle.ixp_build_demo.proofs.AfterRequests.{accepted_is, none_touched, not_refused, not_repeated, stays_whole}
use Rattle.ixp_build_demo.proofs.following.follow.Goals as goal

pub follow_accepted-requires-clause-accepted : goal.follow_accepted-requires-clause-accepted
follow_accepted-requires-clause-accepted c =
    accepted_is c.args.state.now c.args.entry c.args.entry.number c.in_ok-owner.field-0 c.in-Accepted.owner c.in_ok-owner.ensures.decision c.in-Accepted.is

pub returns-in-Repeated-clause-parts : goal.returns-in-Repeated-clause-parts
returns-in-Repeated-clause-parts c =
    sym (none_touched c.args.state.now c.args.entry c.args.entry.number c.in_ok-owner.field-0 c.in_ok-owner.ensures.decision
    (not_repeated c.in_ok-owner.field-0 c.in-Repeated.field-0 c.in-Repeated.is))

pub returns-in-Refused-clause-parts : goal.returns-in-Refused-clause-parts
returns-in-Refused-clause-parts c =
    sym (none_touched c.args.state.now c.args.entry c.args.entry.number c.in_ok-owner.field-0 c.in_ok-owner.ensures.decision
    (not_refused c.in_ok-owner.field-0 c.in-Refused.field-0 c.in-Refused.is))
