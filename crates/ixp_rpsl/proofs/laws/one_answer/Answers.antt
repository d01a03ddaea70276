use Rattle.ixp_rpsl.proofs.OneReading as reading
use Rattle.ixp_rpsl.proofs.laws.one_answer.Goals as goal

pub returns : goal.returns
returns c = λ t x y some other a b. reading.one_answer t x y some other a b
