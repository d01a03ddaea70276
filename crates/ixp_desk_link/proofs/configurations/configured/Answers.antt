use Rattle.ixp_desk_link.proofs.configurations.configured.Goals as goal

pub returns-clause-turn : goal.returns-clause-turn
returns-clause-turn g c = (c.published.result, c.text_outcome.ensures, c.published.ensures.answers, c.published.ensures.headline)
