use Rattle.ixp_read.proofs.AnswerLaws.{answers_agree}
use Rattle.ixp_read.proofs.laws.one_answer.Goals as goal

pub returns : goal.returns
returns c = answers_agree
