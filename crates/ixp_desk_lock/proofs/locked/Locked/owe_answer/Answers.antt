use Rattle.std.proofs.Common.{◌<◌, ℕ, List, length, ◌∙◌, None, refl, ap, sym, subst}
use Rattle.ixp_desk_lock.specs.Facts.{Counts, IsEdit, turn_in}
use Rattle.ixp_desk_lock.proofs.Owing.{counts_more, edit_faults, log_is, owes_now, still_edit, still_owed}
use Rattle.ixp_desk_lock.proofs.locked.Locked.owe_answer.Goals as goal

pub invariant_of-self : goal.invariant_of-self
invariant_of-self g c = (
  c.self.invariant.0,
  still_owed c.args.self.now c.self.inside.pen c.self.inside.owed c.owe_turn.new.owed c.self.inside.state c.self.inside.state c.self.inside.pending (record { seat = c.args.seat; number = c.args.number; event = c.edit_event.result; view = c.in_ok-shared.field-0 }) c.view.result.now c.args.seat c.args.number
      c.self.view_is c.requires.none c.requires.number c.self.invariant.1 c.view.ensures refl refl c.in_ok-shared.ensures refl
      (λ f ts is. let at = log_is c.args.self.now c.self.inside.pen (turn_in c.self.inside.owed) c.self.view_is ∙ is in
      still_edit f ts c.edit_event.result c.args.entry.now c.args.decision.now c.edit_event.ensures c.requires.lawful (c.requires.edits f ts at) (c.requires.decided f ts at).0 c.requires.other)
      c.owe_turn.ensures,
  subst (λ o. Counts c.self.inside.pen o (g.P.Keeper.faults c.self.inside.keeper) c.raise.new.counts.items) (sym (ap turn_in c.owe_turn.ensures))
      (counts_more c.args.self.now c.self.inside.pen c.self.inside.owed (g.P.Keeper.faults c.self.inside.keeper) (g.P.Keeper.faults c.self.inside.keeper) c.self.inside.counts.items c.raise.new.counts.items (record { seat = c.args.seat; number = c.args.number; event = c.edit_event.result; view = c.in_ok-shared.field-0 }) c.args.seat c.args.number
      c.self.view_is c.requires.none c.requires.number c.self.invariant.2 refl (subst (λ (xs : List ℕ). c.args.seat < length xs) c.as_slice.ensures.value c.in-Some.ensures.there) (sym (edit_faults (g.P.Keeper.faults c.self.inside.keeper) c.edit_event.result c.args.entry.now c.args.decision.now c.edit_event.ensures)) c.raise.ensures),
  c.self.invariant.3,
)

pub returns-clause-ok : goal.returns-clause-ok
returns-clause-ok g c = owes_now c.args.self.now c.self.inside.pen c.self.inside.owed c.owe_turn.new.owed (record { seat = c.args.seat; number = c.args.number; event = c.edit_event.result; view = c.in_ok-shared.field-0 }) None c.args.seat c.args.number (λ v. IsEdit v c.args.entry.now c.args.decision.now) c.self.view_is c.owe_turn.ensures refl refl c.edit_event.ensures
