use Rattle.ixp_desk_laws.proofs.OwnAnswers.{asks_alike, submits_alike, texts_alike}
use Rattle.ixp_desk_laws.proofs.calls.desks_answer_members_of_their_own.Goals as goal

pub returns : goal.returns
returns c = record { submit = submits_alike; ask = asks_alike; own_text = texts_alike }
