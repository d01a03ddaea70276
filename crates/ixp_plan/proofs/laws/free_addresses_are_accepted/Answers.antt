use Rattle.ixp_plan.proofs.Refusing.{welcome}
use Rattle.ixp_plan.proofs.laws.free_addresses_are_accepted.Goals as goal

pub returns : goal.returns
returns c = welcome
