use Rattle.ixp_machine_steps.proofs.Once.{once}
use Rattle.ixp_machine_steps.proofs.laws.requests_act_once.Goals as goal

pub returns : goal.returns
returns c = λ s es v. once es s (record { order = v.order; each = v.each })
