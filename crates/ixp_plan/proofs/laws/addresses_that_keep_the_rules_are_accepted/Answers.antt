use Rattle.ixp_plan.proofs.Refusing.{admitted}
use Rattle.ixp_plan.proofs.laws.addresses_that_keep_the_rules_are_accepted.Goals as goal

pub returns : goal.returns
returns c = admitted
