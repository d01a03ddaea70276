use Rattle.std.proofs.Common.{arith}
use Rattle.std.proofs.lemmas.Grind.{common_steps}
use Rattle.ixp_registry_breach.proofs.Weighing.{weight_added}
use Rattle.ixp_registry_breach.proofs.weights.add.Goals as goal

pub returns : goal.returns
returns c = λ member family.
    weight_added c.args.weights.now c.insert.new.self c.args.share c.unwrap_or-weight.result c.saturating_add.result member family
    (grind (arith, common_steps)) (omega arith) (c.in_ok-insert.ensures.updates.0 (member, family))
