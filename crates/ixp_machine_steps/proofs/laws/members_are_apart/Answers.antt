use Rattle.ixp_machine_steps.proofs.Isolating.{apart}
use Rattle.ixp_machine_steps.proofs.laws.members_are_apart.Goals as goal

pub returns : goal.returns
returns c = apart
