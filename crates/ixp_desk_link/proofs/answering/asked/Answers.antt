use Rattle.std.proofs.Common.{subst}
use Rattle.ixp_machine.specs.declared.question.Query.{Query}
use Rattle.ixp_desk_link.specs.Turns.{AskTurn}
use Rattle.ixp_desk_link.proofs.answering.asked.Goals as goal

pub returns-clause-turn : goal.returns-clause-turn
returns-clause-turn g c =
    let e = c.at_second-at.ensures in
    (e.0, e.1, subst (λ (q : Query). AskTurn c.args.secret.now q c.answer_outcome.result c.args.seat.now c.ask.new.seat) e.2 (c.ask.result, c.answer_outcome.ensures, c.ask.ensures.turns))
