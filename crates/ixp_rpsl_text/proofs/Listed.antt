-- A text with one item in each line is the list of these items.
use Rattle.std.proofs.Common.{◌≡◌, ◌≢◌, ◌≤◌, ◌<◌, ◌-◌, ◌==◌, ℕ, zero, suc, Bool, true, false, not, cond, List, [], ◌∷◌, ◌++◌, map, take, length, slice_index, Result, Ok, refl, sym, ap, ◌∙◌, subst, arith, ne_eqb, if◌then◌else◌}
use Rattle.std.specs.List.{AllByRecursion, filter}
use Rattle.std.specs.Str.Lines.{lines, strip_carriage_return}
use Rattle.ixp_irr.specs.Lists.{counts}
use Rattle.ixp_irr.proofs.LineParts.{first_of}
use Rattle.ixp_irr.proofs.Parts.{HasNone}
use Rattle.ixp_rpsl_text.specs.Texts.{lines_text}
use Rattle.ixp_rpsl_text.proofs.HighTexts.{IsHigh}

high_apart : (m : ℕ) (t : List ℕ) → m < 44 → AllByRecursion IsHigh t → HasNone m t
high_apart m [] low all = tt
high_apart m (c ∷ cs) low all = ((λ e. let high = all.0 in omega arith), high_apart m cs low all.1)

last_apart : (t : List ℕ) (k : ℕ) → k < length t → AllByRecursion IsHigh t → slice_index t k ≢ 13
last_apart [] k within all e = omega arith
last_apart (c ∷ cs) zero within all e = let high = all.0 in let same : c ≡ 13 = e in omega arith
last_apart (c ∷ cs) (suc k) within all e = last_apart cs k (omega arith) all.1 e

kept : (t : List ℕ) → AllByRecursion IsHigh t → 0 < length t → strip_carriage_return t ≡ t
kept t all some = ap (λ b. cond b (take (length t - 1) t) t) (ne_eqb (slice_index t (length t - 1)) 13 (last_apart t (length t - 1) (omega arith) all))

counted : (t : List ℕ) → AllByRecursion IsHigh t → 0 < length t → counts t ≡ true
counted [] all some = absurd (let h : ⊥ = omega arith in h)
counted (c ∷ cs) all some = ap not (ne_eqb c 35 (λ e. let high = all.0 in omega arith))

module _ {A : Type 0} (text : A → List ℕ) where
  -- a text of one line
  abbrev pub IsLine : A → Type 0
  IsLine x = AllByRecursion IsHigh (text x) × (0 < length (text x))

  lines_are : (xs : List A) → AllByRecursion IsLine xs → lines (lines_text text xs) ≡ map text xs
  lines_are [] all = refl
  lines_are (x ∷ xs) all =
      first_of (text x ++ 10 ∷ lines_text text xs) (text x) (lines_text text xs) refl (high_apart 10 (text x) (omega arith) all.0.0)
      ∙ (ap (λ l. l ∷ lines (lines_text text xs)) (kept (text x) all.0.0 all.0.1) ∙ ap (λ ls. text x ∷ ls) (lines_are xs all.1))

  all_count : (xs : List A) → AllByRecursion IsLine xs → filter counts (map text xs) ≡ map text xs
  all_count [] all = refl
  all_count (x ∷ xs) all =
      ap (λ b. cond b (text x ∷ filter counts (map text xs)) (filter counts (map text xs))) (counted (text x) all.0.0 all.0.1) ∙ ap (λ ls. text x ∷ ls) (all_count xs all.1)

  -- the lines of such a text that count are those of the items
  pub lines_counted : (xs : List A) → AllByRecursion IsLine xs → filter counts (lines (lines_text text xs)) ≡ map text xs
  lines_counted xs all = ap (filter counts) (lines_are xs all) ∙ all_count xs all
