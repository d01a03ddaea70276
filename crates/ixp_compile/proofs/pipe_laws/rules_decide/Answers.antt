use Rattle.ixp_compile.proofs.Rewrites.{rules_decide}
use Rattle.ixp_compile.proofs.pipe_laws.rules_decide.Goals as goal

pub returns : goal.returns
returns c = λ router s route to ok. rules_decide router.asn.0 route to s.rules ok
