use Rattle.ixp_compile.proofs.Rights.{right}
use Rattle.ixp_compile.proofs.walk_laws.walk_is_fate.Goals as goal

pub returns : goal.returns
returns c = λ r handle router n s route valid there its family.
    right r valid handle router there n s its route family
