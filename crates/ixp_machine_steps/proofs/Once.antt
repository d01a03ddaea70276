-- At most one request of an owner with a number is accepted.
use Rattle.std.proofs.Common.{◌≡◌, ℕ, ◌+◌, ◌≤◌, ◌⊎◌, inl, inr, Bool, true, false, List, [], ◌∷◌, ◌++◌, Some, refl, sym, ap, ◌∙◌, subst, arith}
use Rattle.std.specs.declared.cmp.Ordering.{Ordering}
use Rattle.std.specs.declared.cmp.Ordering.TheVariants.{Less, Equal, Greater}
use Rattle.std.specs.List.{AllByRecursion}
use Rattle.ixp_num_tables.specs.Tables.{order, Ascends, same}
use Rattle.ixp_num_tables.specs.Sums.{count, one_if, Often}
use Rattle.ixp_num_tables.proofs.Orders.{all_weaker, order_equal}
use Rattle.ixp_num_tables.proofs.TableLaws.{all_put, Ascends-put}
use Rattle.ixp_num_tables.proofs.SumLaws.{total_joined}
use Rattle.ixp_num_tables.proofs.Counts.{same_is}
use Rattle.ixp_registry.specs.declared.members.Owner.{Owner}
use Rattle.ixp_registry.specs.declared.registry.Registry.{Registry}
use Rattle.ixp_registry.specs.Words.{owner_numbers}
use Rattle.ixp_members.specs.Owners.{owner_of}
use Rattle.ixp_machine_edits.specs.declared.edit.Edit.{Edit}
use Rattle.ixp_machine_edits.specs.Edits.{next}
use Rattle.ixp_machine_steps.specs.declared.kept.KeptNumber.{KeptNumber}
use Rattle.ixp_machine_steps.specs.declared.kept.KeptOwner.{KeptOwner}
use Rattle.ixp_machine_steps.specs.declared.state.Entry.{Entry}
use Rattle.ixp_machine_steps.specs.declared.state.State.{State}
use Rattle.ixp_machine_steps.specs.Kept.{kept_owner_key, kept_of, noted, noted_for, ValidKept, IsSpent}
use Rattle.ixp_machine_steps.specs.Runs.{run, act_key, acts, if_accepted, acted, accepted_edits, after_all}
use Rattle.ixp_machine_steps.specs.States.{ValidState}
use Rattle.ixp_machine_steps.specs.Steps.{Accepted, verdict, verdict_of, kept_entry, after, step}
use Rattle.ixp_machine_steps.proofs.KeptLaws.{noted_valid, spent_kept, spent_now}
use Rattle.ixp_machine_steps.proofs.KeptOwners.{one_owner, kept_now, kept_other, valid_kept}
use Rattle.ixp_machine_steps.proofs.Accepting.{accepted_parts, not_spent, Acts, Rests, either, accepted_step}

-- what is kept of requests is valid
pub record KeptStands (s : State) : Type 0 where
  pub order : Ascends kept_owner_key s.kept
  pub each : AllByRecursion (ValidKept s.accepted) s.kept

later : (a : ℕ) (o : KeptOwner) → ValidKept a o → ValidKept (a + 1) o
later a o v = record {
  order = v.order;
  above = v.above;
  counted = v.counted;
  few = v.few;
  floor = v.floor;
  places = all_weaker (λ t. t.place ≤ a) (λ t. t.place ≤ a + 1) (λ t e. omega (arith, e)) o.numbers v.places;
}

pub after_stands : (s : State) (owner : Owner) (e : Entry) → verdict_of s owner e.number e.edit ≡ Accepted → KeptStands s → KeptStands (after s owner e)
after_stands s owner e h stands =
    let a = accepted_parts s.registry (kept_of s.kept owner) owner e.number e.edit h in
    let k = kept_entry e (s.accepted + 1) in
    let new = noted k (kept_of s.kept owner) in
    let counted = e.counted in
    record {
      order = Ascends-put kept_owner_key new s.kept stands.order;
      each = all_put kept_owner_key (ValidKept (s.accepted + 1)) new s.kept
          (noted_valid s.accepted k (kept_of s.kept owner) (valid_kept s.accepted s.kept owner stands.each) a.floor counted (omega arith))
          (all_weaker (ValidKept s.accepted) (ValidKept (s.accepted + 1)) (later s.accepted) s.kept stands.each);
    }

pub step_stands : (s : State) (e : Entry) → KeptStands s → KeptStands (step s e)
step_stands s e stands = by_case (either s e) where
  by_case : Acts s e ⊎ Rests s e → KeptStands (step s e)
  by_case (inl a) = subst KeptStands (sym a.3) (after_stands s a.0 e a.2 stands)
  by_case (inr r) = subst KeptStands (sym r.0) stands

-- a number of an owner that is used stays used
spent_after : (s : State) (owner : Owner) (e : Entry) (other : Owner) (n : ℕ) → verdict_of s owner e.number e.edit ≡ Accepted → KeptStands s → IsSpent n (kept_of s.kept other) → IsSpent n (kept_of (after s owner e).kept other)
spent_after s owner e other n h stands spent = by_order (order (owner_numbers owner) (owner_numbers other)) refl where
  k : KeptNumber
  k = kept_entry e (s.accepted + 1)

  apart : (order (owner_numbers owner) (owner_numbers other) ≡ Equal → ⊥) → IsSpent n (kept_of (noted_for owner k s.kept) other)
  apart far = subst (IsSpent n) (sym (kept_other k s.kept owner other far)) spent

  here : owner ≡ other → IsSpent n (kept_of (noted_for owner k s.kept) other)
  here is = subst (λ (x : Owner). IsSpent n (kept_of (noted_for owner k s.kept) x)) is
      (subst (IsSpent n) (sym (kept_now k s.kept owner))
      (spent_kept s.accepted n k (kept_of s.kept owner) (valid_kept s.accepted s.kept owner stands.each) (accepted_parts s.registry (kept_of s.kept owner) owner e.number e.edit h).floor
      (subst (λ (x : Owner). IsSpent n (kept_of s.kept x)) (sym is) spent)))

  by_order : (o : Ordering) → order (owner_numbers owner) (owner_numbers other) ≡ o → IsSpent n (kept_of (noted_for owner k s.kept) other)
  by_order Less e = apart (λ eq. let bad : ⊥ = cc in bad)
  by_order Equal e = here (one_owner owner other (order_equal (owner_numbers owner) (owner_numbers other) e))
  by_order Greater e = apart (λ eq. let bad : ⊥ = cc in bad)

pub spent_step : (s : State) (e : Entry) (owner : Owner) (n : ℕ) → KeptStands s → IsSpent n (kept_of s.kept owner) → IsSpent n (kept_of (step s e).kept owner)
spent_step s e owner n stands spent = by_case (either s e) where
  by_case : Acts s e ⊎ Rests s e → IsSpent n (kept_of (step s e).kept owner)
  by_case (inl a) = subst (λ (t : State). IsSpent n (kept_of t.kept owner)) (sym a.3) (spent_after s a.0 e owner n a.2 stands spent)
  by_case (inr r) = subst (λ (t : State). IsSpent n (kept_of t.kept owner)) (sym r.0) spent

-- and one that is accepted is used
pub used_now : (s : State) (owner : Owner) (e : Entry) → KeptStands s → verdict_of s owner e.number e.edit ≡ Accepted → IsSpent e.number (kept_of (after s owner e).kept owner)
used_now s owner e stands h =
    let k = kept_entry e (s.accepted + 1) in
    subst (IsSpent e.number) (sym (kept_now k s.kept owner))
    (spent_now s.accepted k (kept_of s.kept owner) (valid_kept s.accepted s.kept owner stands.each) (accepted_parts s.registry (kept_of s.kept owner) owner e.number e.edit h).floor)

pub spent_run : (es : List Entry) (s : State) (owner : Owner) (n : ℕ) → KeptStands s → IsSpent n (kept_of s.kept owner) → IsSpent n (kept_of (run s es).kept owner)
spent_run [] s owner n stands spent = spent
spent_run (e ∷ es) s owner n stands spent = spent_run es (step s e) owner n (step_stands s e stands) (spent_step s e owner n stands spent)

-- how often an owner with a number acts
abbrev times : List ℕ → List (List ℕ) → ℕ
times k js = count (λ j. same k j) js

times_both : (k : List ℕ) (xs ys : List (List ℕ)) → times k (xs ++ ys) ≡ times k xs + times k ys
times_both k xs ys = total_joined (λ j. one_if (same k j)) xs ys

times_one : (k j : List ℕ) → times k (j ∷ []) ≡ one_if (same k j)
times_one k j = omega arith

-- one that is used doesn't act
acts_never : (s : State) (e : Entry) (owner : Owner) (n : ℕ) → IsSpent n (kept_of s.kept owner) → times (act_key owner n) (acts s e) ≡ 0
acts_never s e owner n spent = by_case (either s e) where
  by_case : Acts s e ⊎ Rests s e → times (act_key owner n) (acts s e) ≡ 0
  by_case (inr r) = ap (times (act_key owner n)) r.1
  by_case (inl a) = ap (times (act_key owner n)) a.4 ∙ (times_one (act_key owner n) (act_key a.0 e.number) ∙ ap one_if (by_test (same (act_key owner n) (act_key a.0 e.number)) refl)) where
    by_test : (b : Bool) → same (act_key owner n) (act_key a.0 e.number) ≡ b → b ≡ false
    by_test false h = refl
    by_test true h = absurd (
        let keys : act_key owner n ≡ act_key a.0 e.number = same_is (act_key owner n) (act_key a.0 e.number) h in
        let number : n ≡ e.number = cc in
        let numbers : owner_numbers owner ≡ owner_numbers a.0 = cc in
        let is : owner ≡ a.0 = one_owner owner a.0 numbers in
        not_spent s a.0 e.number e.edit a.2 (subst (λ (x : Owner). IsSpent e.number (kept_of s.kept x)) is (subst (λ (m : ℕ). IsSpent m (kept_of s.kept owner)) number spent)))

never_again : (es : List Entry) (s : State) (owner : Owner) (n : ℕ) → KeptStands s → IsSpent n (kept_of s.kept owner) → times (act_key owner n) (acted s es) ≡ 0
never_again [] s owner n stands spent = refl
never_again (e ∷ es) s owner n stands spent =
    let now = acts_never s e owner n spent in
    let rest = never_again es (step s e) owner n (step_stands s e stands) (spent_step s e owner n stands spent) in
    let both = times_both (act_key owner n) (acts s e) (acted (step s e) es) in
    omega (arith, now, rest, both)

one_at_most : (b : Bool) → one_if b ≤ 1
one_at_most true = omega arith
one_at_most false = omega arith

once_more : (s : State) (e : Entry) (es : List Entry) (k : List ℕ) → KeptStands s → times k (acted (step s e) es) ≤ 1 → times k (acts s e ++ acted (step s e) es) ≤ 1
once_more s e es k stands rest = by_case (either s e) where
  both : times k (acts s e ++ acted (step s e) es) ≡ times k (acts s e) + times k (acted (step s e) es)
  both = times_both k (acts s e) (acted (step s e) es)

  by_case : Acts s e ⊎ Rests s e → times k (acts s e ++ acted (step s e) es) ≤ 1
  by_case (inr r) = let none : times k (acts s e) ≡ 0 = ap (times k) r.1 in omega (arith, none, both, rest)
  by_case (inl a) = by_test (same k (act_key a.0 e.number)) refl where
    now : times k (acts s e) ≡ one_if (same k (act_key a.0 e.number))
    now = ap (times k) a.4 ∙ times_one k (act_key a.0 e.number)

    by_test : (b : Bool) → same k (act_key a.0 e.number) ≡ b → times k (acts s e ++ acted (step s e) es) ≤ 1
    by_test false h = let none : times k (acts s e) ≡ 0 = now ∙ ap one_if h in omega (arith, none, both, rest)
    by_test true h =
        let one : times k (acts s e) ≡ 1 = now ∙ ap one_if h in
        let used : IsSpent e.number (kept_of (step s e).kept a.0) = subst (λ (t : State). IsSpent e.number (kept_of t.kept a.0)) (sym a.3) (used_now s a.0 e stands a.2) in
        let none : times (act_key a.0 e.number) (acted (step s e) es) ≡ 0 = never_again es (step s e) a.0 e.number (step_stands s e stands) used in
        let none' : times k (acted (step s e) es) ≡ 0 = ap (λ q. times q (acted (step s e) es)) (same_is k (act_key a.0 e.number) h) ∙ none in
        omega (arith, one, both, none')

pub once : (es : List Entry) (s : State) → KeptStands s → Often 1 (λ k. k) (acted s es)
once [] s stands k = omega arith
once (e ∷ es) s stands k = once_more s e es k stands (once es (step s e) (step_stands s e stands) k)

-- the registry is that of the accepted edits
step_registry : (s : State) (e : Entry) → (step s e).registry ≡ after_all s.registry (if_accepted (verdict s e) e.edit)
step_registry s e = by_case (either s e) where
  by_case : Acts s e ⊎ Rests s e → (step s e).registry ≡ after_all s.registry (if_accepted (verdict s e) e.edit)
  by_case (inl a) = ap (λ t. t.registry) a.3 ∙ sym (ap (after_all s.registry) a.5)
  by_case (inr r) = ap (λ t. t.registry) r.0 ∙ sym (ap (after_all s.registry) r.2)

after_both : (r : Registry) (xs ys : List Edit) → after_all r (xs ++ ys) ≡ after_all (after_all r xs) ys
after_both r [] ys = refl
after_both r (x ∷ xs) ys = after_both (next r x) xs ys

pub run_registry : (es : List Entry) (s : State) → (run s es).registry ≡ after_all s.registry (accepted_edits s es)
run_registry [] s = refl
run_registry (e ∷ es) s =
    run_registry es (step s e)
    ∙ (ap (λ r. after_all r (accepted_edits (step s e) es)) (step_registry s e)
    ∙ sym (after_both s.registry (if_accepted (verdict s e) e.edit) (accepted_edits (step s e) es)))

pub used_step : (s : State) (owner : Owner) (e : Entry) → ValidState s → owner_of s.registry e.secret ≡ Some owner → verdict_of s owner e.number e.edit ≡ Accepted → IsSpent e.number (kept_of (step s e).kept owner)
used_step s owner e v found h = subst (λ (t : State). IsSpent e.number (kept_of t.kept owner)) (sym (accepted_step s owner e found h)) (used_now s owner e (record { order = v.order; each = v.each }) h)
