use Rattle.ixp_rpsl_text.proofs.OneChain.{one_chain}
use Rattle.ixp_rpsl_text.proofs.laws.one_expansion.Goals as goal

pub returns : goal.returns
returns c = one_chain
