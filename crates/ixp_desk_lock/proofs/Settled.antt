-- A turn that was owed is made.
use Rattle.std.proofs.Common.{◌≡◌, ℕ, List, [], ◌∷◌, ◌++◌, Option, Some, None, ap, sym, ◌∙◌, subst}
use Rattle.ixp_board.specs.Histories.{with_turn}
use Rattle.ixp_board.proofs.Entries.{entries-with_turn}
use Rattle.ixp_machine_steps.specs.declared.state.State.{State}
use Rattle.ixp_build_pending.specs.declared.pending.Pending.{Pending}
use Rattle.ixp_desk_history.specs.declared.turn.Turn.{Turn}
use Rattle.ixp_desk_lock.specs.declared.owed.Owed.{Owed}
use Rattle.ixp_desk_lock.specs.Facts.{Log, all_of, turn_in, reach_in, Folds, Counts}

pub settled : (log now : Log) (owed : Option Owed) (o : Owed) (s : State) (p : Pending) → owed ≡ Some o → reach_in owed ≡ None → now ≡ with_turn log o.turn
    → Folds log (turn_in owed) (reach_in owed) s p → Folds now None None s p
settled log now owed o s p is noted put f =
    let g = subst (λ w. Folds log w None s p) (ap turn_in is) (subst (λ x. Folds log (turn_in owed) x s p) noted f) in
    subst (λ l. Folds l None None s p) (sym put) (record {
      first = g.first;
      turns = g.turns ++ o.turn ∷ [];
      is = ap (λ l. with_turn l o.turn) g.is ∙ entries-with_turn g.first g.turns o.turn;
      legal = g.legal;
      state = g.state;
      reaches = tt;
      pends = g.pends;
    })

pub counted : (log now : Log) (owed : Option Owed) (o : Owed) (faults : ℕ) (counts : List ℕ) → owed ≡ Some o → now ≡ with_turn log o.turn
    → Counts log (turn_in owed) faults counts → Counts now None faults counts
counted log now owed o faults counts is put f =
    let g = subst (λ w. Counts log w faults counts) (ap turn_in is) f in
    subst (λ l. Counts l None faults counts) (sym put) (record {
      first = g.first;
      turns = g.turns ++ o.turn ∷ [];
      is = ap (λ l. with_turn l o.turn) g.is ∙ entries-with_turn g.first g.turns o.turn;
      faults_are = g.faults_are;
      turns_are = g.turns_are;
    })

-- the history is this, and nothing is owed
abbrev IsNow : Log → Log × Option Turn → Type 0
IsNow now w = ◌≡◌ {A = Log × Option Turn} (now, None) (all_of w, None)

pub made : (v : Log × Option Turn) (log now : Log) (owed : Option Owed) (o : Owed) → ◌≡◌ {A = Log × Option Turn} (log, turn_in owed) v → owed ≡ Some o → now ≡ with_turn log o.turn → IsNow now v
made v log now owed o view is put = subst (IsNow now) view (subst (λ (w : Option Turn). IsNow now (log, w)) (sym (ap turn_in is)) (ap (λ (l : Log). (l, None)) put))
