use Rattle.ixp_desk_laws.proofs.OwnCalls.{calls_alike}
use Rattle.ixp_desk_laws.proofs.members.members_are_answered_of_their_own.Goals as goal

pub returns : goal.returns
returns c = calls_alike
