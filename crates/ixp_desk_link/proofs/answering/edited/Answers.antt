use Rattle.ixp_desk_link.proofs.answering.edited.Goals as goal

pub returns-clause-turn : goal.returns-clause-turn
returns-clause-turn g c = (c.submit.result, c.edit_outcome.ensures, c.submit.ensures.turns)
