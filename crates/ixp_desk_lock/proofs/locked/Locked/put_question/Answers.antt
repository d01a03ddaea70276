use Rattle.std.proofs.Common.{◌<◌, ◌∙◌, ℕ, List, length, refl, sym, subst}
use Rattle.ixp_desk_lock.specs.Facts.{IsQuestion, turn_in}
use Rattle.ixp_desk_lock.proofs.Pubs.{accepted_still, adds_one, at_once, level_one, may_put, put_counts, put_now, question_faults, question_folds}
use Rattle.ixp_desk_lock.proofs.locked.Locked.put_question.Goals as goal

pub put-requires : goal.put-requires
put-requires g c = may_put c.self.inside.pen (record { seat = c.number-2.result; number = c.count.result; event = c.question_event.result; view = c.in_ok-shared.field-0 }) c.self.inside.state c.self.inside.pending (question_folds c.args.self.now c.self.inside.pen c.self.inside.owed c.args.seat.now c.self.inside.state c.self.inside.pending (record { seat = c.number-2.result; number = c.count.result; event = c.question_event.result; view = c.in_ok-shared.field-0 }) c.view.result.now c.args.asked c.args.answered.now c.self.view_is c.requires.level c.self.invariant.1 c.view.ensures c.number-2.ensures c.count.ensures c.in_ok-shared.ensures c.question_event.ensures c.requires.replies)

pub invariant_of-self-2 : goal.invariant_of-self-2
invariant_of-self-2 g c = (
  c.self.invariant.0,
  at_once c.args.self.now c.self.inside.pen c.put.new.self c.self.inside.owed c.self.inside.state c.self.inside.pending c.self.view_is c.requires.level.none (put_now c.self.inside.pen c.put.new.self c.self.inside.state c.self.inside.pending (record { seat = c.number-2.result; number = c.count.result; event = c.question_event.result; view = c.in_ok-shared.field-0 }) c.in_ok-note.ensures.ok (question_folds c.args.self.now c.self.inside.pen c.self.inside.owed c.args.seat.now c.self.inside.state c.self.inside.pending (record { seat = c.number-2.result; number = c.count.result; event = c.question_event.result; view = c.in_ok-shared.field-0 }) c.view.result.now c.args.asked c.args.answered.now c.self.view_is c.requires.level c.self.invariant.1 c.view.ensures c.number-2.ensures c.count.ensures c.in_ok-shared.ensures c.question_event.ensures c.requires.replies)),
  put_counts c.args.self.now c.self.inside.pen c.put.new.self c.self.inside.owed c.args.seat.now (g.P.Keeper.faults c.self.inside.keeper) c.self.inside.counts.items c.raise.new.counts.items (record { seat = c.number-2.result; number = c.count.result; event = c.question_event.result; view = c.in_ok-shared.field-0 }) c.number-2.result c.count.result c.self.view_is c.requires.level c.self.invariant.2
      c.number-2.ensures c.count.ensures refl (subst (λ (n : ℕ). n < length c.self.inside.counts.items) (c.number.ensures ∙ sym c.number-2.ensures) (subst (λ (xs : List ℕ). c.number.result < length xs) c.as_slice.ensures.value c.in-Some.ensures.there))
      (question_faults (g.P.Keeper.faults c.self.inside.keeper) c.question_event.result c.args.asked c.args.answered.now c.question_event.ensures) c.raise.ensures c.in_ok-note.ensures.ok,
  c.self.invariant.3,
)

pub returns-clause-ok : goal.returns-clause-ok
returns-clause-ok g c = adds_one c.args.self.now c.self.inside.pen c.put.new.self c.in_ok-note.note (turn_in c.self.inside.owed) c.args.seat.now c.made.new.self (record { seat = c.number-2.result; number = c.count.result; event = c.question_event.result; view = c.in_ok-shared.field-0 }) (IsQuestion c.args.asked c.args.answered.now) c.self.view_is c.requires.level
    c.number-2.ensures c.count.ensures c.question_event.ensures c.in_ok-note.ensures.ok c.in_ok-note.ensures.note c.made.ensures

pub returns-clause-accepted : goal.returns-clause-accepted
returns-clause-accepted g c = accepted_still c.args.self.now c.self.inside.pen c.put.new.self c.self.inside.owed c.self.inside.state c.self.inside.pending c.self.inside.pending c.self.view_is c.requires.level.none c.self.invariant.1
    (put_now c.self.inside.pen c.put.new.self c.self.inside.state c.self.inside.pending (record { seat = c.number-2.result; number = c.count.result; event = c.question_event.result; view = c.in_ok-shared.field-0 }) c.in_ok-note.ensures.ok (question_folds c.args.self.now c.self.inside.pen c.self.inside.owed c.args.seat.now c.self.inside.state c.self.inside.pending (record { seat = c.number-2.result; number = c.count.result; event = c.question_event.result; view = c.in_ok-shared.field-0 }) c.view.result.now c.args.asked c.args.answered.now c.self.view_is c.requires.level c.self.invariant.1 c.view.ensures c.number-2.ensures c.count.ensures c.in_ok-shared.ensures c.question_event.ensures c.requires.replies))

pub returns-clause-level : goal.returns-clause-level
returns-clause-level g c = level_one c.args.self.now c.self.inside.pen c.put.new.self c.in_ok-note.note (turn_in c.self.inside.owed) c.args.seat.now c.made.new.self (record { seat = c.number-2.result; number = c.count.result; event = c.question_event.result; view = c.in_ok-shared.field-0 }) c.self.view_is c.requires.level c.number-2.ensures c.in_ok-note.ensures.ok c.in_ok-note.ensures.note c.made.ensures
