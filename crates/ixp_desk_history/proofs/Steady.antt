-- What no later edit touched is wanted as before.
use Rattle.std.proofs.Common.{◌≡◌, ℕ, ◌+◌, ◌≤◌, ◌<◌, ◌⊎◌, inl, inr, Bool, true, false, List, [], ◌∷◌, ◌++◌, refl, ap, sym, ◌∙◌, subst, arith, if◌then◌else◌}
use Rattle.std.specs.List.{AllByRecursion}
use Rattle.ixp_registry.specs.declared.registry.Registry.{Registry}
use Rattle.ixp_registry.specs.Valid.{Valid}
use Rattle.ixp_machine_edits.specs.declared.edit.Edit.{Edit}
use Rattle.ixp_machine_edits.specs.Edits.{IsLawful, change, next}
use Rattle.ixp_machine_edits.proofs.EditChanges.{change_is_next}
use Rattle.ixp_machine_steps.specs.declared.state.Entry.{Entry}
use Rattle.ixp_machine_steps.specs.declared.state.State.{State}
use Rattle.ixp_machine_steps.specs.Runs.{run, if_accepted}
use Rattle.ixp_machine_steps.specs.States.{ValidState}
use Rattle.ixp_machine_steps.specs.Steps.{Verdict, Accepted, Repeated, Reused, Refused, verdict, step}
use Rattle.ixp_machine_steps.proofs.Accepting.{Acts, Rests, either}
use Rattle.ixp_machine_steps.proofs.Staying.{still_a_state}
use Rattle.ixp_build_pending.specs.declared.touch.Touch.{Touch}
use Rattle.ixp_build_touches.specs.Touched.{touch}
use Rattle.ixp_registry_change.specs.declared.change.RegistryChange.{RegistryChange}
use Rattle.ixp_registry_change.specs.Changes.{with_change}
use Rattle.ixp_desk_history.specs.Touches.{if_accepted_else, last_from, touched_by}

abbrev pub AllLawful : List Entry → Type 0
AllLawful es = AllByRecursion (λ e. IsLawful e.edit) es

said : {X : Type 0} (v : Verdict) (e : Edit) (new old : X) → if_accepted v e ≡ e ∷ [] → if_accepted_else v new old ≡ new
said Accepted e new old is = refl
said Repeated e new old is = absurd (let bad : ⊥ = cc in bad)
said (Reused kind subject) e new old is = absurd (let bad : ⊥ = cc in bad)
said (Refused x) e new old is = absurd (let bad : ⊥ = cc in bad)

unsaid : {X : Type 0} (v : Verdict) (e : Edit) (new old : X) → if_accepted v e ≡ [] → if_accepted_else v new old ≡ old
unsaid Accepted e new old is = absurd (let bad : ⊥ = cc in bad)
unsaid Repeated e new old is = refl
unsaid (Reused kind subject) e new old is = refl
unsaid (Refused x) e new old is = refl

-- what an edit touches in a state
abbrev pub touch_in : State → Entry → Touch
touch_in s e = touch s.registry (next s.registry e.edit) (change s.registry e.edit)

-- what a request does: it makes the next version, or nothing
pub record Makes (s : State) (e : Entry) : Type 0 where
  pub count : (step s e).accepted ≡ s.accepted + 1
  pub registry : (step s e).registry ≡ next s.registry e.edit
  pub touched : (p : Touch → Bool) (n : ℕ) → touched_by p s e n ≡ (if p (touch_in s e) then s.accepted + 1 else n)

pub record Leaves (s : State) (e : Entry) : Type 0 where
  pub state : step s e ≡ s
  pub touched : (p : Touch → Bool) (n : ℕ) → touched_by p s e n ≡ n

made_by : (s : State) (e : Entry) → Acts s e → Makes s e
made_by s e a = record {
  count = ap (λ (t : State). t.accepted) a.3;
  registry = ap (λ (t : State). t.registry) a.3;
  touched = λ p n. said (verdict s e) e.edit (if p (touch_in s e) then s.accepted + 1 else n) n a.5;
}

pub makes_or_leaves : (s : State) (e : Entry) → Makes s e ⊎ Leaves s e
makes_or_leaves s e = by_case (either s e) where
  by_case : Acts s e ⊎ Rests s e → Makes s e ⊎ Leaves s e
  by_case (inl a) = inl (made_by s e a)
  by_case (inr r) = inr (record {
    state = r.0;
    touched = λ p n. unsaid (verdict s e) e.edit (if p (touch_in s e) then s.accepted + 1 else n) n r.2;
  })

never_rests : (e : Edit) → e ∷ [] ≡ [] → ⊥
never_rests e is = let bad : ⊥ = cc in bad

pub accepted_makes : (s : State) (e : Entry) → verdict s e ≡ Accepted → Makes s e
accepted_makes s e accepted = by_case (either s e) where
  by_case : Acts s e ⊎ Rests s e → Makes s e
  by_case (inl a) = made_by s e a
  by_case (inr r) = absurd (never_rests e.edit (subst (λ v. if_accepted v e.edit ≡ []) accepted r.2))

-- Counts of accepted requests.

count_of_step : (s : State) (e : Entry) → Makes s e ⊎ Leaves s e → s.accepted ≤ (step s e).accepted
count_of_step s e (inl m) = let count = m.count in omega (arith, count)
count_of_step s e (inr l) = subst (λ (t : State). s.accepted ≤ t.accepted) (sym l.state) (omega arith)

pub counts_rise : (s : State) (es : List Entry) → s.accepted ≤ (run s es).accepted
counts_rise s [] = omega arith
counts_rise s (e ∷ es) = let one = count_of_step s e (makes_or_leaves s e) in let rest = counts_rise (step s e) es in omega (arith, one, rest)

left_alone : (s : State) (e : Entry) → Makes s e ⊎ Leaves s e → (step s e).accepted ≤ s.accepted → step s e ≡ s
left_alone s e (inl m) low = let count = m.count in absurd (omega (arith, count, low))
left_alone s e (inr l) low = l.state

-- requests after which no more were accepted left the state
pub same_count : (s : State) (es : List Entry) → (run s es).accepted ≤ s.accepted → run s es ≡ s
same_count s [] low = refl
same_count s (e ∷ es) low =
    let rest = counts_rise (step s e) es in
    let first = left_alone s e (makes_or_leaves s e) (omega (arith, rest, low)) in
    same_count (step s e) es (subst (λ (t : State). (run (step s e) es).accepted ≤ t.accepted) (sym first) low) ∙ first

-- The last edit that touched a text.

module _ (p : Touch → Bool) where
  -- of a run's parts
  pub last_both : (s : State) (n : ℕ) (es ds : List Entry) → last_from p s n (es ++ ds) ≡ last_from p (run s es) (last_from p s n es) ds
  last_both s n [] ds = refl
  last_both s n (e ∷ es) ds = last_both (step s e) (touched_by p s e n) es ds

  -- the last count, by what the first request does
  later_of : (s : State) (e : Entry) (n last : ℕ) → Makes s e ⊎ Leaves s e → (last ≡ touched_by p s e n) ⊎ ((step s e).accepted < last) → (last ≡ n) ⊎ (s.accepted < last)
  later_of s e n last (inl m) (inl is) = by_listed (p (touch_in s e)) (is ∙ m.touched p n) where
    by_listed : (b : Bool) → last ≡ (if b then s.accepted + 1 else n) → (last ≡ n) ⊎ (s.accepted < last)
    by_listed true is = inr (omega (arith, is))
    by_listed false is = inl is
  later_of s e n last (inl m) (inr lt) = let count = m.count in inr (omega (arith, count, lt))
  later_of s e n last (inr l) (inl is) = inl (is ∙ l.touched p n)
  later_of s e n last (inr l) (inr lt) = inr (subst (λ (t : State). t.accepted < last) l.state lt)

  -- the last count is the one before, or that of a later version
  pub last_or_later : (s : State) (n : ℕ) (es : List Entry) → (last_from p s n es ≡ n) ⊎ (s.accepted < last_from p s n es)
  last_or_later s n [] = inl refl
  last_or_later s n (e ∷ es) = later_of s e n (last_from p s n (e ∷ es)) (makes_or_leaves s e) (last_or_later (step s e) (touched_by p s e n) es)

-- What a registry wants of a text is the same after a change that doesn't touch it.
abbrev pub Frames : {W : Type 0} → (Touch → Bool) → (Registry → W) → Type 0
Frames p wanted = (r : Registry) (c : RegistryChange) → Valid r → p (touch r (with_change r c) c) ≡ false → wanted r ≡ wanted (with_change r c)

module _ {W : Type 0} (p : Touch → Bool) (wanted : Registry → W) (frame : Frames p wanted) where
  edit_frame : (r : Registry) (e : Edit) → Valid r → p (touch r (next r e) (change r e)) ≡ false → wanted r ≡ wanted (next r e)
  edit_frame r e valid = subst (λ (s : Registry). p (touch r s (change r e)) ≡ false → wanted r ≡ wanted s) (change_is_next r e) (frame r (change r e) valid)

  -- a request with which the last count isn't later leaves what is wanted
  text_left : (s : State) (e : Entry) (n last : ℕ) → ValidState s → Makes s e ⊎ Leaves s e → (last ≡ touched_by p s e n) ⊎ ((step s e).accepted < last)
      → last ≤ s.accepted → (wanted s.registry ≡ wanted (step s e).registry) × (last ≤ (step s e).accepted)
  text_left s e n last valid (inl m) (inl is) low = by_listed (p (touch_in s e)) refl (is ∙ m.touched p n) where
    by_listed : (b : Bool) → p (touch_in s e) ≡ b → last ≡ (if b then s.accepted + 1 else n) → (wanted s.registry ≡ wanted (step s e).registry) × (last ≤ (step s e).accepted)
    by_listed true un is = absurd (omega (arith, is, low))
    by_listed false un is =
        let count = m.count in
        (edit_frame s.registry e.edit valid.registry un ∙ ap wanted (sym m.registry), omega (arith, count, low))
  text_left s e n last valid (inl m) (inr lt) low = let count = m.count in absurd (omega (arith, count, lt, low))
  text_left s e n last valid (inr l) at low =
      (ap (λ (t : State). wanted t.registry) (sym l.state), subst (λ (t : State). last ≤ t.accepted) (sym l.state) low)

  -- a text that no request touches is wanted as before
  pub steady : (s : State) (n : ℕ) (es : List Entry) → ValidState s → AllLawful es → last_from p s n es ≤ s.accepted → wanted s.registry ≡ wanted (run s es).registry
  steady s n [] valid lawful low = refl
  steady s n (e ∷ es) valid lawful low =
      let left = text_left s e n (last_from p s n (e ∷ es)) valid (makes_or_leaves s e) (last_or_later p (step s e) (touched_by p s e n) es) low in
      left.0 ∙ steady (step s e) (touched_by p s e n) es (still_a_state s e valid lawful.0) lawful.1 left.1
