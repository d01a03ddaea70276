use Rattle.ixp_desk_laws.proofs.OwnAnswers.{ask_place, submit_place, text_place}
use Rattle.ixp_desk_laws.proofs.calls.answered_calls_have_places.Goals as goal

pub returns : goal.returns
returns c = record { submit = submit_place; ask = ask_place; own_text = text_place }
