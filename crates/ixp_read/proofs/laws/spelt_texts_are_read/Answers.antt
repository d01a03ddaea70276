use Rattle.ixp_read.proofs.AnswerLaws.{spelt_is_answered}
use Rattle.ixp_read.proofs.laws.spelt_texts_are_read.Goals as goal

pub returns : goal.returns
returns c = spelt_is_answered
