-- One turn more.
use Rattle.std.proofs.Common.{◌≡◌, ℕ, ◌+◌, ◌==◌, List, [], ◌∷◌, ◌++◌, refl, ap, sym, ◌∙◌, subst, arith, append_assoc, if◌then◌else◌}
use Rattle.std.proofs.lemmas.List.{append-nil}
use Rattle.ixp_machine_steps.specs.declared.state.Entry.{Entry}
use Rattle.ixp_machine_steps.specs.declared.state.State.{State}
use Rattle.ixp_machine_steps.specs.Runs.{run}
use Rattle.ixp_machine_steps.specs.Steps.{step}
use Rattle.ixp_desk_history.specs.declared.turn.First.{First}
use Rattle.ixp_desk_history.specs.declared.turn.Shown.{Shown}
use Rattle.ixp_desk_history.specs.declared.turn.Turn.{Turn}
use Rattle.ixp_desk_history.specs.Turns.{entry_in, entries_of, state_of, faults_from, fault_in, built_from, built_in, turns_by, shown_from, shown_after}
use Rattle.ixp_desk_history.specs.Legal.{MayFollow, GoesOn, Legal}

pub run_both : (s : State) (es ds : List Entry) → run s (es ++ ds) ≡ run (run s es) ds
run_both s [] ds = refl
run_both s (e ∷ es) ds = run_both (step s e) es ds

pub entries_snoc : (ts : List Turn) (t : Turn) → entries_of (ts ++ t ∷ []) ≡ entries_of ts ++ entry_in t.event
entries_snoc [] t = append-nil (entry_in t.event)
entries_snoc (x ∷ ts) t = ap (λ es. entry_in x.event ++ es) (entries_snoc ts t) ∙ sym (append_assoc (entry_in x.event) (entries_of ts) (entry_in t.event))

-- the state after one turn more
pub state_snoc : (f : First) (ts : List Turn) (t : Turn) → state_of f (ts ++ t ∷ []) ≡ run (state_of f ts) (entry_in t.event)
state_snoc f ts t = ap (run f.state) (entries_snoc ts t) ∙ run_both f.state (entries_of ts) (entry_in t.event)

pub faults_snoc : (n : ℕ) (ts : List Turn) (t : Turn) → faults_from n (ts ++ t ∷ []) ≡ fault_in (faults_from n ts) t.event
faults_snoc n [] t = refl
faults_snoc n (x ∷ ts) t = faults_snoc (fault_in n x.event) ts t

pub built_snoc : (n : ℕ) (ts : List Turn) (t : Turn) → built_from n (ts ++ t ∷ []) ≡ built_in (built_from n ts) t.event
built_snoc n [] t = refl
built_snoc n (x ∷ ts) t = built_snoc (built_in n x.event) ts t

pub shown_snoc : (f : First) (ts : List Turn) (t : Turn) → shown_after f (ts ++ t ∷ []) ≡ t.view
shown_snoc f ts t = from f.view ts where
  from : (v : Shown) (ts : List Turn) → shown_from v (ts ++ t ∷ []) ≡ t.view
  from v [] = refl
  from v (x ∷ ts) = from x.view ts

pub turns_snoc : (seat : ℕ) (ts : List Turn) (t : Turn) → turns_by seat (ts ++ t ∷ []) ≡ turns_by seat ts + (if t.seat == seat then 1 else 0)
turns_snoc seat [] t = omega arith
turns_snoc seat (x ∷ ts) t = let e = turns_snoc seat ts t in omega (arith, e)

goes_snoc : (f : First) (before ts : List Turn) (t : Turn) → GoesOn f before ts → MayFollow f (before ++ ts) t → GoesOn f before (ts ++ t ∷ [])
goes_snoc f before [] t goes may = (subst (λ b. MayFollow f b t) (append-nil before) may, tt)
goes_snoc f before (x ∷ ts) t goes may =
    (goes.0, goes_snoc f (before ++ x ∷ []) ts t goes.1 (subst (λ b. MayFollow f b t) (sym (append_assoc before (x ∷ []) ts)) may))

-- a legal history with a turn that may follow
pub legal_snoc : (f : First) (ts : List Turn) (t : Turn) → Legal f ts → MayFollow f ts t → Legal f (ts ++ t ∷ [])
legal_snoc f ts t is may = record { begins = is.begins; goes = goes_snoc f [] ts t is.goes may }
