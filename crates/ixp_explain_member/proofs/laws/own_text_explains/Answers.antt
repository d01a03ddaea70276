use Rattle.ixp_explain_member.proofs.Reports.{tells}
use Rattle.ixp_explain_member.proofs.laws.own_text_explains.Goals as goal

pub returns : goal.returns
returns c = λ r handle router n s valid there its. tells r valid handle router there n s its
