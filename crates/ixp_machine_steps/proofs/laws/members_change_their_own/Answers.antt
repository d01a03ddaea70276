use Rattle.ixp_machine_steps.proofs.Isolating.{own_alone}
use Rattle.ixp_machine_steps.proofs.laws.members_change_their_own.Goals as goal

pub returns : goal.returns
returns c = own_alone
