-- Versions of a history.
use Rattle.std.proofs.Common.{◌≡◌, ℕ, ◌+◌, ◌≤◌, ◌⊎◌, inl, inr, List, [], ◌∷◌, ◌++◌, refl, ap, sym, ◌∙◌, subst, arith, append_assoc}
use Rattle.std.proofs.lemmas.List.{append-nil}
use mathlib.Core.List.{IsPrefix}
use Rattle.ixp_registry.specs.declared.registry.Registry.{Registry}
use Rattle.ixp_machine_steps.specs.declared.state.Entry.{Entry}
use Rattle.ixp_machine_steps.specs.declared.state.State.{State}
use Rattle.ixp_machine_steps.specs.Runs.{run}
use Rattle.ixp_machine_steps.specs.States.{ValidState}
use Rattle.ixp_machine_steps.specs.Steps.{step}
use Rattle.ixp_machine_steps.proofs.Staying.{still_a_state}
use Rattle.ixp_desk_history.specs.declared.turn.Event.{Event}
use Rattle.ixp_desk_history.specs.declared.turn.Event.TheVariants.{Edit, Question, Install, Fault}
use Rattle.ixp_desk_history.specs.declared.turn.First.{First}
use Rattle.ixp_desk_history.specs.declared.turn.Turn.{Turn}
use Rattle.ixp_desk_history.specs.Turns.{entry_in, entries_of, state_of, registry_of, IsVersion}
use Rattle.ixp_desk_history.specs.Legal.{MayCome, MayFollow, GoesOn, Legal}
use Rattle.ixp_desk_history.proofs.Snocs.{run_both, state_snoc}
use Rattle.ixp_desk_history.proofs.Steady.{AllLawful, counts_rise, same_count}

pub entries_both : (xs ys : List Turn) → entries_of (xs ++ ys) ≡ entries_of xs ++ entries_of ys
entries_both [] ys = refl
entries_both (x ∷ xs) ys = ap (λ es. entry_in x.event ++ es) (entries_both xs ys) ∙ sym (append_assoc (entry_in x.event) (entries_of xs) (entries_of ys))

-- the state after both is that of a run from the one after the first
pub state_both : (f : First) (xs ys : List Turn) → state_of f (xs ++ ys) ≡ run (state_of f xs) (entries_of ys)
state_both f xs ys = ap (run f.state) (entries_both xs ys) ∙ run_both f.state (entries_of xs) (entries_of ys)

-- of two beginnings one begins the other
pub either_begins : {A : Type 0} (xs ys us vs : List A) → xs ++ us ≡ ys ++ vs → IsPrefix xs ys ⊎ IsPrefix ys xs
either_begins [] ys us vs is = inl (ys, refl)
either_begins (x ∷ xs) [] us vs is = inr (x ∷ xs, refl)
either_begins (x ∷ xs) (y ∷ ys) us vs is = further (either_begins xs ys us vs (cc (is))) where
  further : IsPrefix xs ys ⊎ IsPrefix ys xs → IsPrefix (x ∷ xs) (y ∷ ys) ⊎ IsPrefix (y ∷ ys) (x ∷ xs)
  further (inl p) = inl (p.0, cc (is, p.1))
  further (inr p) = inr (p.0, cc (is, p.1))

no_later : (f : First) (xs ys : List Turn) → IsPrefix xs ys → (state_of f ys).accepted ≤ (state_of f xs).accepted → registry_of f ys ≡ registry_of f xs
no_later f xs ys p low =
    let whole : state_of f ys ≡ run (state_of f xs) (entries_of p.0) = ap (state_of f) (sym p.1) ∙ state_both f xs p.0 in
    ap (λ (s : State). s.registry) (whole ∙ same_count (state_of f xs) (entries_of p.0) (subst (λ (s : State). s.accepted ≤ (state_of f xs).accepted) whole low))

-- there is one registry with a count
pub one_version : (f : First) (ts : List Turn) (k : ℕ) (r s : Registry) → IsVersion f ts k r → IsVersion f ts k s → r ≡ s
one_version f ts k r s v w = by_case (either_begins v.before w.before v.rest w.rest (sym v.is ∙ w.is)) where
  by_case : IsPrefix v.before w.before ⊎ IsPrefix w.before v.before → r ≡ s
  by_case (inl p) = v.registry ∙ (sym (no_later f v.before w.before p (let a = v.count in let b = w.count in omega (arith, a, b))) ∙ sym w.registry)
  by_case (inr p) = v.registry ∙ (no_later f w.before v.before p (let a = v.count in let b = w.count in omega (arith, a, b)) ∙ sym w.registry)

-- the version of a beginning is one of the whole
pub version_stays : (f : First) (ts more : List Turn) (k : ℕ) (r : Registry) → IsVersion f ts k r → IsVersion f (ts ++ more) k r
version_stays f ts more k r v = record {
  before = v.before;
  rest = v.rest ++ more;
  is = ap (λ l. l ++ more) v.is ∙ append_assoc v.before v.rest more;
  count = v.count;
  registry = v.registry;
}

pub present : (f : First) (ts : List Turn) → IsVersion f ts (state_of f ts).accepted (registry_of f ts)
present f ts = record { before = ts; rest = []; is = sym (append-nil ts); count = refl; registry = refl }

-- Legal histories have lawful edits and valid states.

lawful_event : (f : First) (ts : List Turn) (v : Event) → MayCome f ts v → AllLawful (entry_in v)
lawful_event f ts (Edit e d) may = (may.0, tt)
lawful_event f ts (Question q a) may = tt
lawful_event f ts (Install upto) may = tt
lawful_event f ts (Fault count) may = tt

all_both : (xs ys : List Entry) → AllLawful xs → AllLawful ys → AllLawful (xs ++ ys)
all_both [] ys a b = b
all_both (x ∷ xs) ys a b = (a.0, all_both xs ys a.1 b)

pub lawful_after : (f : First) (before ts : List Turn) → GoesOn f before ts → AllLawful (entries_of ts)
lawful_after f before [] goes = tt
lawful_after f before (t ∷ ts) goes =
    all_both (entry_in t.event) (entries_of ts) (lawful_event f before t.event goes.0.event) (lawful_after f (before ++ t ∷ []) ts goes.1)

-- what goes on is legal from there
pub goes_parts : (f : First) (before xs ys : List Turn) → GoesOn f before (xs ++ ys) → GoesOn f before xs × GoesOn f (before ++ xs) ys
goes_parts f before [] ys goes = (tt, subst (λ b. GoesOn f b ys) (sym (append-nil before)) goes)
goes_parts f before (x ∷ xs) ys goes =
    let rest = goes_parts f (before ++ x ∷ []) xs ys goes.1 in
    ((goes.0, rest.0), subst (λ b. GoesOn f b ys) (append_assoc before (x ∷ []) xs) rest.1)

-- a beginning of a legal history is legal
pub legal_before : (f : First) (before rest : List Turn) → Legal f (before ++ rest) → Legal f before
legal_before f before rest legal = record { begins = legal.begins; goes = (goes_parts f [] before rest legal.goes).0 }

run_valid : (s : State) (es : List Entry) → ValidState s → AllLawful es → ValidState (run s es)
run_valid s [] valid lawful = valid
run_valid s (e ∷ es) valid lawful = run_valid (step s e) es (still_a_state s e valid lawful.0) lawful.1

pub state_valid : (f : First) (ts : List Turn) → Legal f ts → ValidState (state_of f ts)
state_valid f ts legal = run_valid f.state (entries_of ts) legal.begins.valid (lawful_after f [] ts legal.goes)
