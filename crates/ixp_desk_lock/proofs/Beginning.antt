-- The facts of a history without turns.
use Rattle.std.proofs.Common.{◌≡◌, ℕ, Bool, true, false, List, [], None, nat_lt, refl, sym, ◌∙◌, subst, if◌then◌else◌}
use Rattle.ixp_board.specs.Histories.{entries, IsViewOf}
use Rattle.ixp_board.proofs.Entries.{same_first, same_turns}
use Rattle.ixp_machine_steps.specs.declared.state.State.{State}
use Rattle.ixp_build_pending.specs.declared.pending.Pending.{Pending}
use Rattle.ixp_build_pending.specs.Pendings.{IsNothing, later_count}
use Rattle.ixp_desk_history.specs.declared.turn.First.{First}
use Rattle.ixp_desk_history.specs.declared.turn.Shown.{Shown}
use Rattle.ixp_desk_history.specs.Legal.{Legal}
use Rattle.ixp_desk_history.specs.Turns.{shown_after}
use Rattle.ixp_desk_lock.specs.Facts.{Counts, Folds, Log}
use Rattle.ixp_desk_lock.specs.Openings.{AllZero, BeginsAt}

none_later : (n : ℕ) → later_count n 0 ≡ 0
none_later n = by_less (nat_lt n 0) where
  by_less : (b : Bool) → ◌≡◌ {A = ℕ} (if b then 0 else 0) 0
  by_less true = refl
  by_less false = refl

-- the history that the pen begins with is legal
begins_legal : (log : Log) (v : Shown) (f : First) → IsViewOf Legal shown_after log v → log ≡ entries f [] → Legal f []
begins_legal log v f is at =
    let same : entries is.first is.turns ≡ entries f [] = sym is.entries_are ∙ at in
    subst (λ (g : First). Legal g []) (same_first is.first f is.turns [] same) (subst (Legal is.first) (same_turns is.first f is.turns [] same) is.legal_turns)

pub folds_first : (log : Log) (v : Shown) (s : State) (faults : ℕ) (p : Pending) → IsViewOf Legal shown_after log v → BeginsAt s faults log → IsNothing p → Folds log None None s p
folds_first log v s faults p shown begins none = record {
  first = begins.0;
  turns = [];
  is = begins.1;
  legal = begins_legal log v begins.0 shown begins.1;
  state = begins.2;
  reaches = tt;
  pends = record {
    headers = λ h. none.headers h ∙ sym (none_later begins.0.state.accepted);
    sessions = λ h n. none.sessions h n ∙ sym (none_later begins.0.state.accepted);
    roas_are = none.roas ∙ sym (none_later begins.0.state.accepted);
  };
}

pub counts_first : (log : Log) (s : State) (faults : ℕ) (counts : List ℕ) → BeginsAt s faults log → AllZero counts → Counts log None faults counts
counts_first log s faults counts begins zero = record {
  first = begins.0;
  turns = [];
  is = begins.1;
  faults_are = begins.3;
  turns_are = zero;
}

pub ruleset first = (folds_first, counts_first)
