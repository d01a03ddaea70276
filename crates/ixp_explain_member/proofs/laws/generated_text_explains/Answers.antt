use Rattle.ixp_explain_member.proofs.Reports.{explains}
use Rattle.ixp_explain_member.proofs.laws.generated_text_explains.Goals as goal

pub returns : goal.returns
returns c = λ r handle router n s valid there its. explains r valid handle router there n s its
