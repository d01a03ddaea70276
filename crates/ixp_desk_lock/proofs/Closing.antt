-- A desk that is taken apart.
use Rattle.std.proofs.Common.{◌≡◌, ℕ, List, Option, ap, sym, ◌∙◌, subst}
use Rattle.ixp_board.specs.Histories.{entries}
use Rattle.ixp_board.proofs.Entries.{same_first, same_turns}
use Rattle.ixp_io.specs.Tables.{Table}
use Rattle.ixp_build_pending.specs.declared.pending.Pending.{Pending}
use Rattle.ixp_machine_steps.specs.declared.state.State.{State}
use Rattle.ixp_desk_history.specs.declared.turn.First.{First}
use Rattle.ixp_desk_history.specs.declared.turn.Turn.{Turn}
use Rattle.ixp_desk_history.specs.Turns.{faults_of}
use Rattle.ixp_desk_lock.specs.declared.owed.Owed.{Owed}
use Rattle.ixp_desk_lock.specs.Facts.{Counts, Folds, KeepsStore, Log, Stored, reach_in, turn_in, with_owed}

-- the three facts give what the store has
pub keeps_store : (v : Log × Option Turn) (log : Log) (owed : Option Owed) (s : State) (p : Pending) (rows : Option Table) (faults : ℕ) (counts : List ℕ)
    → ◌≡◌ {A = Log × Option Turn} (log, turn_in owed) v → Stored rows s → Folds log (turn_in owed) (reach_in owed) s p → Counts log (turn_in owed) faults counts → KeepsStore v rows faults
keeps_store v log owed s p rows faults counts view stored g c =
    let same : entries c.first c.turns ≡ entries g.first g.turns = sym c.is ∙ g.is in
    let counted : faults ≡ faults_of g.first (with_owed g.turns (turn_in owed))
    = c.faults_are
    ∙ (ap (λ (f : First). faults_of f (with_owed c.turns (turn_in owed))) (same_first c.first g.first c.turns g.turns same)
    ∙ ap (λ (ts : List Turn). faults_of g.first (with_owed ts (turn_in owed))) (same_turns c.first g.first c.turns g.turns same)) in
    subst (λ (w : Log × Option Turn). KeepsStore w rows faults) view (record {
      first = g.first;
      turns = g.turns;
      is = g.is;
      legal = g.legal;
      stored = subst (Stored rows) g.state stored;
      faults_are = counted;
    })
