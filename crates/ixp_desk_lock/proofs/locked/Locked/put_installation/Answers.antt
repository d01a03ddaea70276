use Rattle.std.proofs.Common.{◌≡◌, ◌<◌, ◌∙◌, ℕ, List, length, None, refl, ap, sym, subst}
use Rattle.ixp_board.specs.Histories.{IsViewOf}
use Rattle.ixp_desk_history.specs.declared.turn.Event.TheVariants.{Install}
use Rattle.ixp_desk_history.specs.Legal.{Legal}
use Rattle.ixp_desk_history.specs.Turns.{fault_in, shown_after}
use Rattle.ixp_desk_lock.specs.Facts.{Folds, HasBuilt, turn_in}
use Rattle.ixp_desk_lock.proofs.Installs.{built_put, folds_put, legal_put, view_put}
use Rattle.ixp_desk_lock.proofs.Pubs.{accepted_still, adds_one, at_once, level_one, put_counts}
use Rattle.ixp_desk_lock.proofs.locked.Locked.put_installation.Goals as goal

pub put-requires : goal.put-requires
put-requires g c = legal_put c.args.self.now c.self.inside.pen c.self.inside.owed c.args.seat.now c.self.inside.state c.self.inside.pending c.args.turn.now c.requires.turn.0 c.args.upto c.self.view_is c.requires.level c.self.invariant.1 c.requires.turn.1 c.requires.turn.2

pub invariant_of-self-2 : goal.invariant_of-self-2
invariant_of-self-2 g c = (
  c.self.invariant.0,
  at_once c.args.self.now c.self.inside.pen c.put.new.self c.self.inside.owed c.self.inside.state c.settle.new.self c.self.view_is c.requires.level.none
      (subst (λ l. Folds l None None c.self.inside.state c.settle.new.self) (sym c.in_ok-note.ensures.ok) (folds_put c.args.self.now c.self.inside.pen c.self.inside.owed c.args.seat.now c.self.inside.state c.self.inside.pending c.args.turn.now c.requires.turn.0 c.args.upto c.self.view_is c.requires.level c.self.invariant.1 c.requires.turn.1 c.requires.turn.2 c.settle.new.self c.settle.ensures)),
  put_counts c.args.self.now c.self.inside.pen c.put.new.self c.self.inside.owed c.args.seat.now (g.P.Keeper.faults c.self.inside.keeper) c.self.inside.counts.items c.raise.new.counts.items c.args.turn.now c.args.turn.now.seat c.args.turn.now.number c.self.view_is c.requires.level c.self.invariant.2
      c.requires.turn.1.seat c.requires.turn.1.number refl (subst (λ (xs : List ℕ). c.args.turn.now.seat < length xs) c.as_slice.ensures.value c.in-Some.ensures.there)
      (sym (ap (fault_in (g.P.Keeper.faults c.self.inside.keeper)) c.requires.turn.1.event)) c.raise.ensures c.in_ok-note.ensures.ok,
  c.self.invariant.3,
)

pub returns-clause-ok : goal.returns-clause-ok
returns-clause-ok g c = adds_one c.args.self.now c.self.inside.pen c.put.new.self c.in_ok-note.note (turn_in c.self.inside.owed) c.args.seat.now c.made.new.self c.args.turn.now (λ v. v ≡ Install c.args.upto) c.self.view_is c.requires.level
    c.requires.turn.1.seat c.requires.turn.1.number (c.requires.turn.1.event ∙ ap Install c.requires.turn.2) c.in_ok-note.ensures.ok c.in_ok-note.ensures.note c.made.ensures

pub returns-clause-accepted : goal.returns-clause-accepted
returns-clause-accepted g c = accepted_still c.args.self.now c.self.inside.pen c.put.new.self c.self.inside.owed c.self.inside.state c.self.inside.pending c.settle.new.self c.self.view_is c.requires.level.none c.self.invariant.1
    (subst (λ l. Folds l None None c.self.inside.state c.settle.new.self) (sym c.in_ok-note.ensures.ok) (folds_put c.args.self.now c.self.inside.pen c.self.inside.owed c.args.seat.now c.self.inside.state c.self.inside.pending c.args.turn.now c.requires.turn.0 c.args.upto c.self.view_is c.requires.level c.self.invariant.1 c.requires.turn.1 c.requires.turn.2 c.settle.new.self c.settle.ensures))

pub returns-clause-built : goal.returns-clause-built
returns-clause-built g c = subst (λ l. HasBuilt l c.args.upto) (sym c.in_ok-note.ensures.ok) (built_put c.args.self.now c.self.inside.pen c.self.inside.owed c.args.seat.now c.self.inside.state c.self.inside.pending c.args.turn.now c.requires.turn.0 c.args.upto c.self.view_is c.requires.level c.self.invariant.1 c.requires.turn.1 c.requires.turn.2)

pub returns-clause-view : goal.returns-clause-view
returns-clause-view g c = subst (λ l. IsViewOf Legal shown_after l c.args.turn.now.view) (sym c.in_ok-note.ensures.ok) (view_put c.args.self.now c.self.inside.pen c.self.inside.owed c.args.seat.now c.self.inside.state c.self.inside.pending c.args.turn.now c.requires.turn.0 c.args.upto c.self.view_is c.requires.level c.self.invariant.1 c.requires.turn.1 c.requires.turn.2)

pub returns-clause-level : goal.returns-clause-level
returns-clause-level g c = level_one c.args.self.now c.self.inside.pen c.put.new.self c.in_ok-note.note (turn_in c.self.inside.owed) c.args.seat.now c.made.new.self c.args.turn.now c.self.view_is c.requires.level c.requires.turn.1.seat c.in_ok-note.ensures.ok c.in_ok-note.ensures.note c.made.ensures
