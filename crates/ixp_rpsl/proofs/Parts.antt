-- The parts of a text at its first mark, and its first line.
use Rattle.std.proofs.Common.{◌≡◌, ℕ, suc, not, ◌+◌, ◌-◌, ◌<◌, ◌≤◌, ◌==◌, Bool, true, false, cond, nat_lt, List, [], ◌∷◌, Option, Some, None, length, take, drop, refl, sym, ap, ◌∙◌, subst, arith, take_all}
use Rattle.std.specs.List.{position, position_or_len, slice_split, onto_first}
use Rattle.std.specs.Str.Lines.{lines, lines_of_parts, strip_carriage_return}
use Rattle.std.proofs.lemmas.Bool.{ltb-true, ltb-false, ne_eqb}
use Rattle.std.proofs.lemmas.List.{length-drop}
use Rattle.std.proofs.lemmas.List.Splits.{slice_split_first}

module _ (p : ℕ → Bool) where
  located : (t : List ℕ) (at : ℕ) → Some at ≡ position p t → (at < length t) × (position_or_len p t ≡ at)
  located t at e = by (nat_lt (position_or_len p t) (length t)) refl e where
    by : (b : Bool) → nat_lt (position_or_len p t) (length t) ≡ b → Some at ≡ cond b (Some (position_or_len p t)) None → (at < length t) × (position_or_len p t ≡ at)
    by true less is =
        let some : position_or_len p t < length t = ltb-true (position_or_len p t) (length t) less in
        let same : position_or_len p t ≡ at = cc in
        (subst (λ n. n < length t) same some, same)
    by false less is = absurd (let h : ⊥ = cc in h)

  nowhere : (t : List ℕ) → ◌≡◌ {A = Option ℕ} None (position p t) → length t ≤ position_or_len p t
  nowhere t e = by (nat_lt (position_or_len p t) (length t)) refl e where
    by : (b : Bool) → nat_lt (position_or_len p t) (length t) ≡ b → ◌≡◌ {A = Option ℕ} None (cond b (Some (position_or_len p t)) None) → length t ≤ position_or_len p t
    by true less is = absurd (let h : ⊥ = cc in h)
    by false less is = ltb-false (position_or_len p t) (length t) less

  pub split_there : (t : List ℕ) (at : ℕ) → Some at ≡ position p t → slice_split p t ≡ take at t ∷ slice_split p (take (length t - (at + 1)) (drop (at + 1) t))
  split_there t at e =
      let place = located t at e in
      let size : length (drop (at + 1) t) ≤ length t - (at + 1) = omega (arith, length-drop (at + 1) t) in
      slice_split_first p t 0 (subst (λ n. n < length t) (sym place.1) place.0)
      ∙ (ap (λ n. take n t ∷ slice_split p (drop (n + 1) t)) place.1 ∙ ap (λ r. take at t ∷ slice_split p r) (sym (take_all (length t - (at + 1)) (drop (at + 1) t) size)))

  apart : (c : ℕ) (cs : List ℕ) (k : ℕ) (b : Bool) → suc (length cs) ≤ cond (not b) (1 + k) 0 → (length cs ≤ k → slice_split p cs ≡ cs ∷ []) → cond b ([] ∷ slice_split p cs) (onto_first c (slice_split p cs)) ≡ (c ∷ cs) ∷ []
  apart c cs k true all later = absurd (let h : ⊥ = omega arith in h)
  apart c cs k false all later = ap (onto_first c) (later (omega arith))

  alone : (t : List ℕ) → length t ≤ position_or_len p t → slice_split p t ≡ t ∷ []
  alone [] all = refl
  alone (c ∷ cs) all = apart c cs (position_or_len p cs) (p c) all (alone cs)

  pub split_nowhere : (t : List ℕ) → ◌≡◌ {A = Option ℕ} None (position p t) → slice_split p t ≡ t ∷ []
  split_nowhere t e = alone t (nowhere t e)

  -- a list has a first part
  onto : (c : ℕ) (parts : List (List ℕ)) → (x : List ℕ) × (xs : List (List ℕ)) × (onto_first c parts ≡ x ∷ xs)
  onto c [] = (c ∷ [], [], refl)
  onto c (x ∷ xs) = (c ∷ x, xs, refl)

  has_first : (t : List ℕ) → (x : List ℕ) × (xs : List (List ℕ)) × (slice_split p t ≡ x ∷ xs)
  has_first [] = ([], [], refl)
  has_first (c ∷ cs) = by (p c) where
    by : (b : Bool) → (x : List ℕ) × (xs : List (List ℕ)) × (cond b ([] ∷ slice_split p cs) (onto_first c (slice_split p cs)) ≡ x ∷ xs)
    by true = ([], slice_split p cs, refl)
    by false = onto c (slice_split p cs)

abbrev parts : List ℕ → List (List ℕ)
parts t = slice_split (λ b. b == 10) t

more : (a : List ℕ) (ps : List (List ℕ)) → (x : List ℕ) × (xs : List (List ℕ)) × (ps ≡ x ∷ xs) → lines_of_parts (a ∷ ps) ≡ strip_carriage_return a ∷ lines_of_parts ps
more a ps (x, xs, e) = subst (λ qs. lines_of_parts (a ∷ qs) ≡ strip_carriage_return a ∷ lines_of_parts qs) (sym e) refl

pub first_of : (t a b : List ℕ) → parts t ≡ a ∷ parts b → lines t ≡ strip_carriage_return a ∷ lines b
first_of t a b e = ap lines_of_parts e ∙ more a (parts b) (has_first (λ b. b == 10) b)

pub last_of : (t : List ℕ) → 0 < length t → parts t ≡ t ∷ [] → lines t ≡ t ∷ []
last_of t some e = ap lines_of_parts e ∙ ap (λ b. cond b [] (t ∷ [])) (ne_eqb (length t) 0 (λ z. omega arith))
