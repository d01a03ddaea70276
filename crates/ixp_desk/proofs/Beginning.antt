-- A desk that begins.
use Rattle.std.proofs.Common.{ℕ, [], Option, None, subst}
use Rattle.ixp_board.specs.Histories.{IsViewOf}
use Rattle.ixp_io.specs.Tables.{Table}
use Rattle.ixp_machine_steps.specs.declared.state.State.{State}
use Rattle.ixp_machine_steps.specs.States.{ValidState}
use Rattle.ixp_desk_history.specs.declared.turn.Shown.{Shown}
use Rattle.ixp_desk_history.specs.Turns.{shown_after}
use Rattle.ixp_desk_lock.specs.Facts.{KeepsStore, Log, Stored}
use Rattle.ixp_desk.proofs.Views.{of_all}
use Rattle.ixp_desk_history.specs.declared.turn.First.{First}
use Rattle.ixp_desk_history.specs.Legal.{Legal}
use Rattle.ixp_desk_lock.specs.Openings.{BeginsAt, ShowsFirst}

-- a history without turns is legal
pub begins_legal : (f : First) → ValidState f.state → ShowsFirst f.state f.view → Legal f []
begins_legal f valid shows = record {
  begins = record { valid = valid; accepted = shows.accepted; keys = shows.keys; texts = shows.texts; built = shows.built; made = shows.made };
  goes = tt;
}

-- a desk that has no turn is taken apart
pub closes : (rows : Option Table) (faults : ℕ) (s : State) (log : Log) (v : Shown) → IsViewOf Legal shown_after log v → BeginsAt s faults log → Stored rows s → KeepsStore (log, None) rows faults
closes rows faults s log v view begins stored = record {
  first = begins.0;
  turns = [];
  is = begins.1;
  legal = of_all log view.first view.turns view.entries_are Legal view.legal_turns begins.0 [] begins.1;
  stored = subst (Stored rows) begins.2 stored;
  faults_are = begins.3;
}
