use Rattle.std.proofs.Common.{◌∙◌, Option, ap, sym, subst}
use Rattle.ixp_desk_history.specs.declared.turn.Turn.{Turn}
use Rattle.ixp_desk_lock.specs.Facts.{Counts, Folds, turn_in, reach_in}
use Rattle.ixp_desk_lock.proofs.Owing.{noted_folds, reach_counts, reach_noted, turn_noted}
use Rattle.ixp_desk_lock.proofs.Settled.{counted, made, settled}
use Rattle.ixp_desk_lock.proofs.locked.Locked.settle.Goals as goal

pub note_owed-requires : goal.note_owed-requires
note_owed-requires g c = reach_counts c.self.inside.pen c.self.inside.owed c.self.inside.state c.self.inside.pending c.self.invariant.1

pub invariant_of-self-in_err-put : goal.invariant_of-self-in_err-put
invariant_of-self-in_err-put g c = (
  c.self.invariant.0,
  subst (λ l. Folds l (turn_in c.note_owed.new.owed) (reach_in c.note_owed.new.owed) c.self.inside.state c.note_owed.new.pending) (sym c.in_err-put.ensures.err)
      (noted_folds c.self.inside.pen c.self.inside.owed c.note_owed.new.owed c.self.inside.state c.self.inside.pending c.note_owed.new.pending c.in_ok-note_owed.ensures.owed c.in_ok-note_owed.ensures.pending c.self.invariant.1),
  subst (λ l. Counts l (turn_in c.note_owed.new.owed) (g.P.Keeper.faults c.self.inside.keeper) c.self.inside.counts.items) (sym c.in_err-put.ensures.err)
      (subst (λ o. Counts c.self.inside.pen o (g.P.Keeper.faults c.self.inside.keeper) c.self.inside.counts.items) (sym (turn_noted c.self.inside.owed c.note_owed.new.owed c.in_ok-note_owed.ensures.owed)) c.self.invariant.2),
  c.self.invariant.3,
)

pub invariant_of-self-2 : goal.invariant_of-self-2
invariant_of-self-2 g c = (
  c.self.invariant.0,
  settled c.self.inside.pen c.put.new.self c.note_owed.new.owed c.in-Some.owed c.self.inside.state c.note_owed.new.pending c.in-Some.is
      (reach_noted c.self.inside.owed c.note_owed.new.owed c.in_ok-note_owed.ensures.owed) c.in_ok-put.ensures.ok
      (noted_folds c.self.inside.pen c.self.inside.owed c.note_owed.new.owed c.self.inside.state c.self.inside.pending c.note_owed.new.pending c.in_ok-note_owed.ensures.owed c.in_ok-note_owed.ensures.pending c.self.invariant.1),
  counted c.self.inside.pen c.put.new.self c.note_owed.new.owed c.in-Some.owed (g.P.Keeper.faults c.self.inside.keeper) c.self.inside.counts.items c.in-Some.is c.in_ok-put.ensures.ok
      (subst (λ o. Counts c.self.inside.pen o (g.P.Keeper.faults c.self.inside.keeper) c.self.inside.counts.items) (sym (turn_noted c.self.inside.owed c.note_owed.new.owed c.in_ok-note_owed.ensures.owed)) c.self.invariant.2),
  c.self.invariant.3,
)

pub returns-clause-ok : goal.returns-clause-ok
returns-clause-ok g c = made c.args.self.now c.self.inside.pen c.put.new.self c.note_owed.new.owed c.in-Some.owed
    (ap (λ (o : Option Turn). (c.self.inside.pen, o)) (turn_noted c.self.inside.owed c.note_owed.new.owed c.in_ok-note_owed.ensures.owed) ∙ c.self.view_is) c.in-Some.is c.in_ok-put.ensures.ok
