-- The first line of a text, and the lines behind it.
use Rattle.std.proofs.Common.{◌≡◌, ◌≢◌, ℕ, ◌<◌, Bool, true, false, cond, ◌==◌, List, [], ◌∷◌, ◌++◌, length, refl, sym, ap, ◌∙◌, subst, arith, ne_eqb}
use Rattle.std.specs.List.{slice_split, onto_first}
use Rattle.std.specs.Str.Lines.{lines, lines_of_parts, strip_carriage_return}
use Rattle.ixp_irr.proofs.Parts.{HasNone}

abbrev is_end : ℕ → Bool
is_end b = b == 10

abbrev split : List ℕ → List (List ℕ)
split t = slice_split is_end t

unequal : (c : ℕ) → c ≢ 10 → is_end c ≡ false
unequal c other = ne_eqb c 10 other

-- a text has a first part
abbrev HasFirst : List (List ℕ) → Type 0
HasFirst parts = (x : List ℕ) × (xs : List (List ℕ)) × (parts ≡ x ∷ xs)

onto : (c : ℕ) (parts : List (List ℕ)) → HasFirst (onto_first c parts)
onto c [] = (c ∷ [], [], refl)
onto c (x ∷ xs) = (c ∷ x, xs, refl)

has_first : (t : List ℕ) → HasFirst (split t)
has_first [] = ([], [], refl)
has_first (c ∷ cs) = by (is_end c) where
  by : (b : Bool) → HasFirst (cond b ([] ∷ split cs) (onto_first c (split cs)))
  by true = ([], split cs, refl)
  by false = onto c (split cs)

split_at : (a b : List ℕ) → HasNone 10 a → split (a ++ 10 ∷ b) ≡ a ∷ split b
split_at [] b free = refl
split_at (c ∷ cs) b free =
    ap (λ x. cond x ([] ∷ split (cs ++ 10 ∷ b)) (onto_first c (split (cs ++ 10 ∷ b)))) (unequal c free.0)
    ∙ ap (onto_first c) (split_at cs b free.1)

split_none : (t : List ℕ) → HasNone 10 t → split t ≡ t ∷ []
split_none [] free = refl
split_none (c ∷ cs) free =
    ap (λ x. cond x ([] ∷ split cs) (onto_first c (split cs))) (unequal c free.0) ∙ ap (onto_first c) (split_none cs free.1)

more : (a : List ℕ) (parts : List (List ℕ)) → HasFirst parts → lines_of_parts (a ∷ parts) ≡ strip_carriage_return a ∷ lines_of_parts parts
more a parts (x, xs, e) = subst (λ ps. lines_of_parts (a ∷ ps) ≡ strip_carriage_return a ∷ lines_of_parts ps) (sym e) refl

pub first_of : (t a b : List ℕ) → t ≡ a ++ 10 ∷ b → HasNone 10 a → lines t ≡ strip_carriage_return a ∷ lines b
first_of t a b e free = ap lines e ∙ (ap lines_of_parts (split_at a b free) ∙ more a (split b) (has_first b))

pub last_of : (t : List ℕ) → 0 < length t → HasNone 10 t → lines t ≡ t ∷ []
last_of [] some free = absurd (let h : ⊥ = omega arith in h)
last_of (c ∷ cs) some free = ap lines_of_parts (split_none (c ∷ cs) free) ∙ ap (λ b. cond b [] ((c ∷ cs) ∷ [])) (ne_eqb (length (c ∷ cs)) 0 (λ z. omega arith))
