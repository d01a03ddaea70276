use Rattle.ixp_registry_demo.proofs.Validity.{valid_demo}
use Rattle.ixp_registry_demo.proofs.laws.demo_is_valid.Goals as goal

pub returns : goal.returns
returns c = valid_demo
