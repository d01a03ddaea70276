use Rattle.ixp_desk_laws.proofs.OwnCalls.{others_left}
use Rattle.ixp_desk_laws.proofs.members.members_calls_leave_others.Goals as goal

pub returns : goal.returns
returns c = others_left
