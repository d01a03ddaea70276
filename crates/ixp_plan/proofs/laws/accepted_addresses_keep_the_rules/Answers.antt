use Rattle.ixp_plan.proofs.Keeping.{kept}
use Rattle.ixp_plan.proofs.laws.accepted_addresses_keep_the_rules.Goals as goal

pub returns : goal.returns
returns c = kept
