use Rattle.ixp_rows.proofs.OneAnswer.{one_answer}
use Rattle.ixp_rows.proofs.laws.one_answer.Goals as goal

pub returns : goal.returns
returns c = one_answer
