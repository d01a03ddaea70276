use Rattle.ixp_desk_laws.proofs.OwnAnswers.{repeats_told}
use Rattle.ixp_desk_laws.proofs.calls.desks_answer_repeats_again.Goals as goal

pub returns : goal.returns
returns c = repeats_told
