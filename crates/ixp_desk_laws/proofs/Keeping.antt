-- What is kept of an edit that was accepted: its number, or that it is too old.
use Rattle.std.proofs.Common.{◌≡◌, ℕ, ◌+◌, ◌≤◌, ◌<◌, ◌⊎◌, inl, inr, Bool, true, false, nat_le, nat_lt, List, [], ◌∷◌, length, Option, Some, None, option_map, refl, sym, ap, ◌∙◌, subst, arith, if◌then◌else◌}
use Rattle.std.specs.declared.cmp.Ordering.{Ordering}
use Rattle.std.specs.declared.cmp.Ordering.TheVariants.{Less, Equal, Greater}
use Rattle.std.specs.List.{AllByRecursion}
use Rattle.std.proofs.lemmas.Bool.Decides.{nat_tests}
use Rattle.ixp_num_tables.specs.Tables.{order, find, put}
use Rattle.ixp_num_tables.proofs.Orders.{head_same, order_equal, order_same}
use Rattle.ixp_num_tables.proofs.Looking.{all_found}
use Rattle.ixp_num_tables.proofs.TableLaws.{all_put, find-equal-key, find-key, find-put-other, find-put-same-key, find-without-other}
use Rattle.ixp_registry.specs.declared.members.Owner.{Owner}
use Rattle.ixp_registry.specs.declared.refusal.Refusal.TheVariants.{Denied, KeyOld}
use Rattle.ixp_registry.specs.Words.{owner_numbers}
use Rattle.ixp_members.specs.Owners.{owner_of}
use Rattle.ixp_machine_edits.specs.Edits.{refusal}
use Rattle.ixp_machine_steps.specs.declared.kept.KeptNumber.{KeptNumber}
use Rattle.ixp_machine_steps.specs.declared.kept.KeptOwner.{KeptOwner}
use Rattle.ixp_machine_steps.specs.declared.state.Entry.{Entry}
use Rattle.ixp_machine_steps.specs.declared.state.State.{State}
use Rattle.ixp_machine_steps.specs.Kept.{kept_key, kept_of, noted, noted_for, ValidKept, without_least}
use Rattle.ixp_machine_steps.specs.Rights.{has_right, right_of}
use Rattle.ixp_machine_steps.specs.Runs.{run}
use Rattle.ixp_machine_steps.specs.Steps.{Accepted, Refused, after, first_said, kept_entry, kept_says, step, verdict_of}
use Rattle.ixp_machine_steps.proofs.Accepting.{Acts, Rests, accepted_parts, accepted_step, either}
use Rattle.ixp_machine_steps.proofs.KeptOwners.{kept_now, kept_other, one_owner, valid_kept}
use Rattle.ixp_machine_steps.proofs.Once.{KeptStands, step_stands}

-- the number is kept for what it was, or is below the floor
abbrev pub Keeps : KeptNumber → KeptOwner → Type 0
Keeps k o = (find kept_key (kept_key k) o.numbers ≡ Some k) ⊎ (k.number < o.floor)

least_keeps : (k : KeptNumber) (o : KeptOwner) (ns : List KeptNumber) → AllByRecursion (λ j. o.floor ≤ j.number) ns → (find kept_key (kept_key k) ns ≡ Some k) ⊎ (k.number < o.floor)
    → Keeps k (without_least o ns)
least_keeps k o [] above (inl e) = absurd (let bad : ⊥ = cc in bad)
least_keeps k o [] above (inr lt) = inr lt
least_keeps k o (j ∷ js) above (inr lt) = inr (let a = above.0 in omega (arith, a, lt))
least_keeps k o (j ∷ js) above (inl e) = by_order (order (kept_key k) (kept_key j)) refl where
  apart : (order (kept_key k) (kept_key j) ≡ Equal → ⊥) → Keeps k (without_least o (j ∷ js))
  apart far = inl (find-without-other kept_key (kept_key k) (kept_key j) (j ∷ js) far ∙ e)

  by_order : (p : Ordering) → order (kept_key k) (kept_key j) ≡ p → Keeps k (without_least o (j ∷ js))
  by_order Less h = apart (λ eq. let bad : ⊥ = cc in bad)
  by_order Equal h = inr (let is = head_same k.number j.number [] [] h in omega (arith, is))
  by_order Greater h = apart (λ eq. let bad : ⊥ = cc in bad)

either_keeps : (a : ℕ) (k j : KeptNumber) (o : KeptOwner) → ValidKept a o → o.floor ≤ j.number → (find kept_key (kept_key k) (put kept_key j o.numbers) ≡ Some k) ⊎ (k.number < o.floor)
    → Keeps k (noted j o)
either_keeps a k j o valid low keeps = by_room (nat_le (length (put kept_key j o.numbers)) 1024) where
  by_room : (b : Bool) → Keeps k (if b then record o { numbers = put kept_key j o.numbers } else without_least o (put kept_key j o.numbers))
  by_room true = keeps
  by_room false = least_keeps k o (put kept_key j o.numbers) (all_put kept_key (λ i. o.floor ≤ i.number) j o.numbers low valid.above) keeps

-- a number that is new leaves what is kept
keeps_noted : (a : ℕ) (k j : KeptNumber) (o : KeptOwner) → ValidKept a o → o.floor ≤ j.number → find kept_key (kept_key j) o.numbers ≡ None → Keeps k o → Keeps k (noted j o)
keeps_noted a k j o valid low new (inr lt) = either_keeps a k j o valid low (inr lt)
keeps_noted a k j o valid low new (inl is) = either_keeps a k j o valid low (inl (find-put-other kept_key (kept_key k) j o.numbers other ∙ is)) where
  other : order (kept_key j) (kept_key k) ≡ Equal → ⊥
  other e =
      let bad : ◌≡◌ {A = Option KeptNumber} None (Some k) = sym new ∙ (find-equal-key kept_key (kept_key j) (kept_key k) o.numbers e ∙ is) in
      let wrong : ⊥ = cc in wrong

-- and is kept itself
keeps_now : (a : ℕ) (k : KeptNumber) (o : KeptOwner) → ValidKept a o → o.floor ≤ k.number → Keeps k (noted k o)
keeps_now a k o valid low = either_keeps a k k o valid low (inl (find-put-same-key kept_key (kept_key k) k o.numbers (order_same (kept_key k))))

-- Requests.

keeps_after : (s : State) (owner : Owner) (e : Entry) (other : Owner) (k : KeptNumber) → verdict_of s owner e.number e.edit ≡ Accepted → KeptStands s → Keeps k (kept_of s.kept other)
    → Keeps k (kept_of (after s owner e).kept other)
keeps_after s owner e other k h stands keeps = by_order (order (owner_numbers owner) (owner_numbers other)) refl where
  j : KeptNumber
  j = kept_entry e (s.accepted + 1)

  apart : (order (owner_numbers owner) (owner_numbers other) ≡ Equal → ⊥) → Keeps k (kept_of (noted_for owner j s.kept) other)
  apart far = subst (Keeps k) (sym (kept_other j s.kept owner other far)) keeps

  here : owner ≡ other → Keeps k (kept_of (noted_for owner j s.kept) other)
  here is =
      let parts = accepted_parts s.registry (kept_of s.kept owner) owner e.number e.edit h in
      subst (λ (x : Owner). Keeps k (kept_of (noted_for owner j s.kept) x)) is
      (subst (Keeps k) (sym (kept_now j s.kept owner))
      (keeps_noted s.accepted k j (kept_of s.kept owner) (valid_kept s.accepted s.kept owner stands.each) parts.floor parts.new
      (subst (λ (x : Owner). Keeps k (kept_of s.kept x)) (sym is) keeps)))

  by_order : (o : Ordering) → order (owner_numbers owner) (owner_numbers other) ≡ o → Keeps k (kept_of (noted_for owner j s.kept) other)
  by_order Less e = apart (λ eq. let bad : ⊥ = cc in bad)
  by_order Equal e = here (one_owner owner other (order_equal (owner_numbers owner) (owner_numbers other) e))
  by_order Greater e = apart (λ eq. let bad : ⊥ = cc in bad)

keeps_step : (s : State) (e : Entry) (owner : Owner) (k : KeptNumber) → KeptStands s → Keeps k (kept_of s.kept owner) → Keeps k (kept_of (step s e).kept owner)
keeps_step s e owner k stands keeps = by_case (either s e) where
  by_case : Acts s e ⊎ Rests s e → Keeps k (kept_of (step s e).kept owner)
  by_case (inl a) = subst (λ (t : State). Keeps k (kept_of t.kept owner)) (sym a.3) (keeps_after s a.0 e owner k a.2 stands keeps)
  by_case (inr r) = subst (λ (t : State). Keeps k (kept_of t.kept owner)) (sym r.0) keeps

pub keeps_run : (es : List Entry) (s : State) (owner : Owner) (k : KeptNumber) → KeptStands s → Keeps k (kept_of s.kept owner) → Keeps k (kept_of (run s es).kept owner)
keeps_run [] s owner k stands keeps = keeps
keeps_run (e ∷ es) s owner k stands keeps = keeps_run es (step s e) owner k (step_stands s e stands) (keeps_step s e owner k stands keeps)

-- what is kept of a request that is accepted
pub keeps_made : (s : State) (owner : Owner) (e : Entry) → KeptStands s → owner_of s.registry e.secret ≡ Some owner → verdict_of s owner e.number e.edit ≡ Accepted
    → Keeps (kept_entry e (s.accepted + 1)) (kept_of (step s e).kept owner)
keeps_made s owner e stands is h =
    let k = kept_entry e (s.accepted + 1) in
    subst (λ (t : State). Keeps k (kept_of t.kept owner)) (sym (accepted_step s owner e is h))
    (subst (Keeps k) (sym (kept_now k s.kept owner))
    (keeps_now s.accepted k (kept_of s.kept owner) (valid_kept s.accepted s.kept owner stands.each) (accepted_parts s.registry (kept_of s.kept owner) owner e.number e.edit h).floor))

-- A number below the floor.

below_none : (a n : ℕ) (o : KeptOwner) → ValidKept a o → n < o.floor → find kept_key (n ∷ []) o.numbers ≡ None
below_none a n o valid low = by_row (find kept_key (n ∷ []) o.numbers) refl where
  by_row : (x : Option KeptNumber) → find kept_key (n ∷ []) o.numbers ≡ x → x ≡ None
  by_row None e = refl
  by_row (Some k) e =
      let above : o.floor ≤ k.number = all_found kept_key (λ j. o.floor ≤ j.number) (n ∷ []) k o.numbers valid.above e in
      let is : k.number ≡ n = head_same k.number n [] [] (find-key kept_key (n ∷ []) k o.numbers e) in
      absurd (omega (arith, above, is, low))

lower : (n floor : ℕ) → n < floor → nat_lt n floor ≡ true
lower n floor lt = grind (arith, nat_tests)

pub too_old : (s : State) (owner : Owner) (e : Entry) → KeptStands s → has_right owner (right_of e.edit) ≡ true → e.number < (kept_of s.kept owner).floor
    → verdict_of s owner e.number e.edit ≡ Refused (KeyOld (kept_of s.kept owner).floor)
too_old s owner e stands right low =
    let o = kept_of s.kept owner in
    let none : find kept_key (e.number ∷ []) o.numbers ≡ None = below_none s.accepted e.number o (valid_kept s.accepted s.kept owner stands.each) low in
    let said = λ (b : Bool) (x : Option KeptNumber) (c : Bool). first_said (
    (if b then None else Some (Refused (Denied (right_of e.edit))))
    ∷ option_map (kept_says e.edit) x
    ∷ (if c then Some (Refused (KeyOld o.floor)) else None)
    ∷ option_map Refused (refusal s.registry e.edit) ∷ []) in
    ap (λ b. said b (find kept_key (e.number ∷ []) o.numbers) (nat_lt e.number o.floor)) right
    ∙ (ap (λ x. said true x (nat_lt e.number o.floor)) none
    ∙ ap (said true None) (lower e.number o.floor low))
