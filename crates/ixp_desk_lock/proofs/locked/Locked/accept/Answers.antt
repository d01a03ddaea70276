use Rattle.std.proofs.Common.{◌<◌, ℕ, List, length, ◌∙◌, None, ap, sym, subst}
use Rattle.ixp_io.specs.Faults.{Rose}
use Rattle.ixp_machine.specs.declared.decision.Decision.TheVariants as decision
use Rattle.ixp_desk_history.specs.declared.turn.Event.{Event}
use Rattle.ixp_desk_history.specs.declared.turn.Event.TheVariants.{Fault}
use Rattle.ixp_desk_lock.specs.Facts.{Accepts, Counts, IsFault, turn_in, reach_in}
use Rattle.ixp_desk_lock.proofs.Owing.{counts_more, edit_faults, edit_owed, faults_now, keys_shown, may_keep, owes_now, still_fault, still_owed, uncounted, unowed, valid_now}
use Rattle.ixp_desk_lock.proofs.locked.Locked.accept.Goals as goal

pub make_ready-requires-clause-keys : goal.make_ready-requires-clause-keys
make_ready-requires-clause-keys g c = keys_shown c.self.inside.pen c.self.inside.state c.self.inside.pending c.view.result.now c.view.ensures (unowed c.args.self.now c.self.inside.pen c.self.inside.owed c.self.inside.state c.self.inside.pending c.self.view_is c.requires.none c.self.invariant.1)

pub make_ready-requires-clause-room : goal.make_ready-requires-clause-room
make_ready-requires-clause-room g c = (may_keep c.args.self.now c.self.inside.pen c.self.inside.owed c.self.inside.state c.self.inside.pending c.args.owner c.args.entry c.self.view_is c.requires.none c.self.invariant.1 c.requires.accepted).3

pub prepare-requires-clause-valid : goal.prepare-requires-clause-valid
prepare-requires-clause-valid g c = valid_now c.self.inside.pen (turn_in c.self.inside.owed) (reach_in c.self.inside.owed) c.self.inside.state c.self.inside.pending c.self.invariant.1

pub prepare-requires-clause-owner : goal.prepare-requires-clause-owner
prepare-requires-clause-owner g c = (may_keep c.args.self.now c.self.inside.pen c.self.inside.owed c.self.inside.state c.self.inside.pending c.args.owner c.args.entry c.self.view_is c.requires.none c.self.invariant.1 c.requires.accepted).1

pub prepare-requires-clause-accepted : goal.prepare-requires-clause-accepted
prepare-requires-clause-accepted g c = (may_keep c.args.self.now c.self.inside.pen c.self.inside.owed c.self.inside.state c.self.inside.pending c.args.owner c.args.entry c.self.view_is c.requires.none c.self.invariant.1 c.requires.accepted).2

pub prepare-requires-clause-room : goal.prepare-requires-clause-room
prepare-requires-clause-room g c = (may_keep c.args.self.now c.self.inside.pen c.self.inside.owed c.self.inside.state c.self.inside.pending c.args.owner c.args.entry c.self.view_is c.requires.none c.self.invariant.1 c.requires.accepted).3

pub keep-requires-clause-valid : goal.keep-requires-clause-valid
keep-requires-clause-valid g c = valid_now c.self.inside.pen (turn_in c.self.inside.owed) (reach_in c.self.inside.owed) c.self.inside.state c.self.inside.pending c.self.invariant.1

pub keep-requires-clause-ready : goal.keep-requires-clause-ready
keep-requires-clause-ready g c =
    let may = may_keep c.args.self.now c.self.inside.pen c.self.inside.owed c.self.inside.state c.self.inside.pending c.args.owner c.args.entry c.self.view_is c.requires.none c.self.invariant.1 c.requires.accepted in
    record { entry = c.args.entry; lawful = may.0; accepted = may.2; makes = c.in_ok-prepared.ensures.step }

pub keep-requires-clause-room : goal.keep-requires-clause-room
keep-requires-clause-room g c = (may_keep c.args.self.now c.self.inside.pen c.self.inside.owed c.self.inside.state c.self.inside.pending c.args.owner c.args.entry c.self.view_is c.requires.none c.self.invariant.1 c.requires.accepted).3

pub invariant_of-self : goal.invariant_of-self
invariant_of-self g c =
    let accepts = subst (λ (v : Event). Accepts v c.args.entry) (sym c.in_ok-ready.ensures.event) c.accepted_event-event.ensures in (
      (c.keep.ensures.stored, c.keep.ensures.storable),
      edit_owed c.args.self.now c.self.inside.pen c.self.inside.owed c.take_up.new.owed c.self.inside.state c.keep.new.state c.self.inside.pending c.in_ok-ready.ready.turn c.args.owner c.args.entry c.in_ok-prepared.prepared.change c.in_ok-ready.ready.reached c.view.result.now c.args.seat c.args.number
          c.self.view_is c.requires.none c.requires.number c.requires.accepted c.self.invariant.1 c.view.ensures c.in_ok-ready.ensures.seat c.in_ok-ready.ensures.number accepts c.in_ok-prepared.ensures.change c.in_ok-ready.ensures.shows
          c.in_ok-ready.ensures.reached (c.in-Ok.ensures.ok ∙ c.in_ok-prepared.ensures.step) c.take_up.ensures,
      subst (λ o. Counts c.self.inside.pen o (g.P.Keeper.faults c.keep.new.keeper) c.raise.new.counts.items) (sym (ap turn_in c.take_up.ensures))
          (counts_more c.args.self.now c.self.inside.pen c.self.inside.owed (g.P.Keeper.faults c.self.inside.keeper) (g.P.Keeper.faults c.keep.new.keeper) c.self.inside.counts.items c.raise.new.counts.items c.in_ok-ready.ready.turn c.args.seat c.args.number
          c.self.view_is c.requires.none c.requires.number c.self.invariant.2 c.in_ok-ready.ensures.seat (subst (λ (xs : List ℕ). c.args.seat < length xs) c.as_slice.ensures.value c.in-Some.ensures.there) (c.keep.ensures.still (λ bad. let wrong : ⊥ = cc in wrong) ∙ sym (edit_faults (g.P.Keeper.faults c.self.inside.keeper) c.in_ok-ready.ready.turn.event c.args.entry (decision.Accepted accepts.0) accepts.1)) c.raise.ensures),
      tt,
    )

pub invariant_of-self-in-Err-Failed : goal.invariant_of-self-in-Err-Failed
invariant_of-self-in-Err-Failed g c = (
  (c.keep.ensures.stored, c.keep.ensures.storable),
  still_owed c.args.self.now c.self.inside.pen c.self.inside.owed c.owe_fault.new.owed c.self.inside.state c.keep.new.state c.self.inside.pending (record { seat = c.in_ok-ready.ready.turn.seat; number = c.in_ok-ready.ready.turn.number; event = Fault c.faults.result; view = c.in_ok-ready.ready.same }) c.view.result.now c.args.seat c.args.number
      c.self.view_is c.requires.none c.requires.number c.self.invariant.1 c.view.ensures c.in_ok-ready.ensures.seat c.in_ok-ready.ensures.number c.in_ok-ready.ensures.same c.in-Err-Failed.ensures.err
      (λ f ts is. still_fault f ts c.faults.result
      (subst (λ n. Rose n c.faults.result)
      (faults_now c.self.inside.pen (g.P.Keeper.faults c.self.inside.keeper) c.self.inside.counts.items f ts (uncounted c.args.self.now c.self.inside.pen c.self.inside.owed (g.P.Keeper.faults c.self.inside.keeper) c.self.inside.counts.items c.self.view_is c.requires.none c.self.invariant.2) is)
      (subst (Rose (g.P.Keeper.faults c.self.inside.keeper)) (sym c.faults.ensures) (c.keep.ensures.cause (cc)))))
      c.owe_fault.ensures,
  subst (λ o. Counts c.self.inside.pen o (g.P.Keeper.faults c.keep.new.keeper) c.raise-in-Err-Failed.new.counts.items) (sym (ap turn_in c.owe_fault.ensures))
      (counts_more c.args.self.now c.self.inside.pen c.self.inside.owed (g.P.Keeper.faults c.self.inside.keeper) (g.P.Keeper.faults c.keep.new.keeper) c.self.inside.counts.items c.raise-in-Err-Failed.new.counts.items (record { seat = c.in_ok-ready.ready.turn.seat; number = c.in_ok-ready.ready.turn.number; event = Fault c.faults.result; view = c.in_ok-ready.ready.same }) c.args.seat c.args.number
      c.self.view_is c.requires.none c.requires.number c.self.invariant.2 c.in_ok-ready.ensures.seat (subst (λ (xs : List ℕ). c.args.seat < length xs) c.as_slice.ensures.value c.in-Some.ensures.there) (sym c.faults.ensures) c.raise-in-Err-Failed.ensures),
  tt,
)

pub returns-in-Err-Failed-clause-failed : goal.returns-in-Err-Failed-clause-failed
returns-in-Err-Failed-clause-failed g c x = owes_now c.args.self.now c.self.inside.pen c.self.inside.owed c.owe_fault.new.owed (record { seat = c.in_ok-ready.ready.turn.seat; number = c.in_ok-ready.ready.turn.number; event = Fault c.faults.result; view = c.in_ok-ready.ready.same }) None c.args.seat c.args.number IsFault c.self.view_is c.owe_fault.ensures c.in_ok-ready.ensures.seat c.in_ok-ready.ensures.number tt
