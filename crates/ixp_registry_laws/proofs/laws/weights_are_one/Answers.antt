use Rattle.ixp_registry_laws.proofs.OneWeight.{one_weight}
use Rattle.ixp_registry_laws.proofs.laws.weights_are_one.Goals as goal

pub returns : goal.returns
returns c = λ r f. one_weight r f.ordered.interfaces f.ordered.irr f.listed.irr
