-- A search that halves a sorted list finds what is in it.
use Rattle.std.proofs.Common.{◌≡◌, ◌≤◌, ◌<◌, ℕ, Bool, false, List, Result, Ok, Err, ◌⊎◌, inl, inr, length, get_or, sym, ap, ◌∙◌, arith}
use Rattle.std.specs.declared.cmp.Ordering.{Ordering}
use Rattle.std.specs.declared.cmp.Ordering.TheVariants.{Less, Greater}
use Rattle.std.specs.Ordering.{eq_by_cmp, is_eq}
use Rattle.std.specs.Cmp.{IsTotalOrder}
use Rattle.std.specs.List.{list_any}
use Rattle.std.specs.List.Sorted.{IsSorted, IsBinarySearchResult, IsSearchInRange, IsPartitionPoint}
use Rattle.std.specs.Result.{is_ok}
use Rattle.std.proofs.lemmas.Bool.{cases_lt}
use Rattle.std.proofs.lemmas.List.Folds.{list_any_at, list_any_none}
use Rattle.std.proofs.lemmas.List.Sorted.{searchable_from_sorted}

module _ {K : Type 0} {R : K → K → Ordering} (o : IsTotalOrder R) {E : K → K → Bool} (ties : (x y : K) → E x y ≡ eq_by_cmp R x y) where
  pub searched : (xs : List K) (x : K) (r : Result ℕ ℕ) → IsSorted R xs → IsSearchInRange r (length xs) → IsBinarySearchResult (λ y. R y x) xs r → is_ok r ≡ list_any (λ y. E y x) xs
  searched xs x (Ok i) sorted inside found =
      sym (list_any_at (λ y. E y x) xs i x inside (ties (get_or xs i x) x ∙ ap is_eq (found x)))
  searched xs x (Err i) sorted inside found = sym (list_any_none (λ y. E y x) xs (λ k d in_. by k d in_ (cases_lt k i))) where
    parted : IsPartitionPoint (λ y. R y x ≡ Less) (λ y. R y x ≡ Greater) xs i
    parted = found (searchable_from_sorted o (λ y. y) xs x sorted)

    by : (k : ℕ) (d : K) → k < length xs → (k < i) ⊎ (i ≤ k) → E (get_or xs k d) x ≡ false
    by k d in_ (inl below) = ties (get_or xs k d) x ∙ ap is_eq (parted.0 k d (omega arith) below)
    by k d in_ (inr above) = ties (get_or xs k d) x ∙ ap is_eq (parted.1 k d above in_)
