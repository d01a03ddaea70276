use Rattle.std.proofs.Common.{Option, ap, sym, subst}
use Rattle.ixp_desk_history.specs.declared.turn.Asked.TheVariants.{Query}
use Rattle.ixp_desk_history.specs.declared.turn.Turn.{Turn}
use Rattle.ixp_desk_lock.specs.Calls.{One}
use Rattle.ixp_desk_lock.specs.Facts.{IsQuestion, Log, Replies}
use Rattle.ixp_desk_lock.specs.Publishing.{Adds}
use Rattle.ixp_desk_lock.proofs.Owing.{replies_at}
use Rattle.ixp_desk_lock.proofs.OwnTurns.{asks_so}
use Rattle.ixp_desk_lock.proofs.locked.Locked.ask.Goals as goal

pub put_question-requires-clause-replies : goal.put_question-requires-clause-replies
put_question-requires-clause-replies g c = subst (λ (v : Log × Option Turn). Replies v.0 (Query c.in_ok-from_slice.field-0 c.args.query) c.in_ok-answered.answered) (sym c.answered.ensures.same)
    (replies_at c.level.new.self.0 c.in_ok-answered.ensures.ok.0 (Query c.args.secret.now c.args.query) (Query c.in_ok-from_slice.field-0 c.args.query) c.in_ok-answered.answered c.in_ok-answered.ensures.ok.1
    (ap (λ x. Query x c.args.query) c.in_ok-from_slice.ensures) c.in_ok-answered.ensures.ok.2)

pub returns-clause-turns : goal.returns-clause-turns
returns-clause-turns g c = asks_so c.in_ok-answered.ensures.ok.0 c.args.secret.now c.args.query c.in_ok-answered.answered c.answer_given.result c.args.seat.now c.level.new.seat c.put_question.new.seat c.put_question.new.self c.answer_given.ensures c.in_ok-answered.ensures.ok.2 c.level.ensures.looks
    (subst (λ x. Adds (One (IsQuestion (Query x c.args.query) c.in_ok-answered.answered)) c.level.new.seat c.put_question.new.seat) c.in_ok-from_slice.ensures c.in_ok-put_question.ensures.ok) c.in_ok-put_question.ensures.level
