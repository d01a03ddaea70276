-- Parts of a text before and behind a byte.
use Rattle.std.proofs.Common.{◌≡◌, ◌≢◌, ℕ, suc, ◌+◌, ◌-◌, ◌<◌, ◌≤◌, Bool, true, false, not, cond, ◌==◌, nat_lt, List, [], ◌∷◌, ◌++◌, length, take, drop, Some, None, Option, refl, sym, ap, ◌∙◌, subst, arith, take_all, eq-eqb}
use Rattle.std.specs.List.{AllByRecursion, position, position_or_len}
use Rattle.std.proofs.lemmas.Bool.{eqb-true, ltb-true, ltb-false}
use Rattle.std.proofs.lemmas.List.{length-drop}

module _ (mark : ℕ) where
  abbrev pub is_mark : ℕ → Bool
  is_mark b = b == mark

  abbrev pub HasNone : List ℕ → Type 0
  HasNone t = AllByRecursion (λ b. b ≢ mark) t

  -- the byte at this place is the first such one
  abbrev pub PartsAt : List ℕ → ℕ → Type 0
  PartsAt t n = (t ≡ take n t ++ mark ∷ drop (suc n) t) × HasNone (take n t)

  other : (c : ℕ) → (c == mark) ≡ false → c ≢ mark
  other c e same = let h : (c == mark) ≡ true = eq-eqb c mark same in let bad : ⊥ = cc in bad

  here : (c : ℕ) (cs : List ℕ) (k : ℕ) (b : Bool) → (c == mark) ≡ b → cond (not b) (1 + k) 0 < suc (length cs) → (k < length cs → PartsAt cs k) → PartsAt (c ∷ cs) (cond (not b) (1 + k) 0)
  here c cs k true e some later = (ap (λ x. x ∷ cs) (eqb-true c mark e), tt)
  here c cs k false e some later =
      let one : 1 + k ≡ suc k = omega arith in
      let is = later (omega arith) in
      subst (PartsAt (c ∷ cs)) (sym one) (ap (λ x. c ∷ x) is.0, (other c e, is.1))

  parts : (t : List ℕ) → position_or_len is_mark t < length t → PartsAt t (position_or_len is_mark t)
  parts [] some = absurd (let h : ⊥ = omega arith in h)
  parts (c ∷ cs) some = here c cs (position_or_len is_mark cs) (c == mark) refl some (parts cs)

  apart : (c : ℕ) (cs : List ℕ) (k : ℕ) (b : Bool) → (c == mark) ≡ b → suc (length cs) ≤ cond (not b) (1 + k) 0 → (length cs ≤ k → HasNone cs) → HasNone (c ∷ cs)
  apart c cs k true e all later = absurd (let h : ⊥ = omega arith in h)
  apart c cs k false e all later = (other c e, later (omega arith))

  none : (t : List ℕ) → length t ≤ position_or_len is_mark t → HasNone t
  none [] all = tt
  none (c ∷ cs) all = apart c cs (position_or_len is_mark cs) (c == mark) refl all (none cs)

  pub located : (t : List ℕ) (at : ℕ) → Some at ≡ position is_mark t → (at < length t) × PartsAt t at
  located t at e = by (nat_lt (position_or_len is_mark t) (length t)) refl e where
    by : (b : Bool) → nat_lt (position_or_len is_mark t) (length t) ≡ b → Some at ≡ cond b (Some (position_or_len is_mark t)) None → (at < length t) × PartsAt t at
    by true less is =
        let some : position_or_len is_mark t < length t = ltb-true (position_or_len is_mark t) (length t) less in
        let same : position_or_len is_mark t ≡ at = cc in
        subst (λ n. (n < length t) × PartsAt t n) same (some, parts t some)
    by false less is = absurd (let h : ⊥ = cc in h)

  pub nowhere : (t : List ℕ) → ◌≡◌ {A = Option ℕ} None (position is_mark t) → HasNone t
  nowhere t e = by (nat_lt (position_or_len is_mark t) (length t)) refl e where
    by : (b : Bool) → nat_lt (position_or_len is_mark t) (length t) ≡ b → ◌≡◌ {A = Option ℕ} None (cond b (Some (position_or_len is_mark t)) None) → HasNone t
    by true less is = absurd (let h : ⊥ = cc in h)
    by false less is = none t (ltb-false (position_or_len is_mark t) (length t) less)

  -- the parts as slices
  pub sliced : (t : List ℕ) (at : ℕ) → (at < length t) × PartsAt t at → (t ≡ take at t ++ mark ∷ take (length t - (at + 1)) (drop (at + 1) t)) × HasNone (take at t)
  sliced t at is =
      let one : suc at ≡ at + 1 = omega arith in
      let size : length (drop (at + 1) t) ≤ length t - (at + 1) = omega (arith, length-drop (at + 1) t) in
      let rest : drop (suc at) t ≡ take (length t - (at + 1)) (drop (at + 1) t) = ap (λ n. drop n t) one ∙ sym (take_all (length t - (at + 1)) (drop (at + 1) t) size) in
      (subst (λ r. t ≡ take at t ++ mark ∷ r) rest is.1.0, is.1.1)
