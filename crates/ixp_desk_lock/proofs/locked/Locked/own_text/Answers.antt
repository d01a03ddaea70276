use Rattle.std.proofs.Common.{◌∙◌, ap, subst}
use Rattle.ixp_desk_history.specs.declared.turn.Asked.TheVariants.{OwnText}
use Rattle.ixp_desk_lock.specs.Calls.{One}
use Rattle.ixp_desk_lock.specs.Facts.{IsQuestion}
use Rattle.ixp_desk_lock.specs.Publishing.{Adds}
use Rattle.ixp_desk_lock.proofs.Owing.{replies_at}
use Rattle.ixp_desk_lock.proofs.OwnTurns.{own_texts_so}
use Rattle.ixp_desk_lock.proofs.PresentRoas.{roas_at}
use Rattle.ixp_desk_lock.proofs.locked.Locked.own_text.Goals as goal

pub own_answer-requires-clause-roas : goal.own_answer-requires-clause-roas
own_answer-requires-clause-roas g c = roas_at c.level.new.self c.self.inside.pen c.self.inside.owed c.state.result.now c.self.inside.state c.self.inside.pending c.in_ok-roas.roas c.self.view_is c.self.invariant.1 c.in_ok-roas.ensures c.state.ensures.state

pub put_question-requires-clause-replies : goal.put_question-requires-clause-replies
put_question-requires-clause-replies g c = replies_at c.level.new.self.0 c.state.result.now (OwnText c.args.secret.now c.args.router.now c.args.interface) (OwnText c.in_ok-from_slice.field-0 c.in_ok-copied.field-0 c.args.interface) c.in_ok-answered.answered c.state.ensures.state
    (ap (λ x. OwnText x c.in_ok-copied.field-0 c.args.interface) c.in_ok-from_slice.ensures ∙ ap (λ h. OwnText c.args.secret.now h c.args.interface) c.in_ok-copied.ensures) c.in_ok-answered.ensures

pub returns-clause-turns : goal.returns-clause-turns
returns-clause-turns g c = own_texts_so c.state.result.now c.args.secret.now c.args.router.now c.args.interface c.in_ok-answered.answered c.text_given.result c.args.seat.now c.level.new.seat c.put_question.new.seat c.put_question.new.self c.text_given.ensures c.in_ok-answered.ensures c.level.ensures.looks
    (subst (λ h. Adds (One (IsQuestion (OwnText c.args.secret.now h c.args.interface) c.in_ok-answered.answered)) c.level.new.seat c.put_question.new.seat) c.in_ok-copied.ensures
    (subst (λ x. Adds (One (IsQuestion (OwnText x c.in_ok-copied.field-0 c.args.interface) c.in_ok-answered.answered)) c.level.new.seat c.put_question.new.seat) c.in_ok-from_slice.ensures c.in_ok-put_question.ensures.ok)) c.in_ok-put_question.ensures.level
