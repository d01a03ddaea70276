-- What a look-up finds, a filter keeps and each row keeps when a row is put in or taken out.
use Rattle.std.proofs.Common.{◌≡◌, ℕ, Bool, false, List, [], ◌∷◌, ◌++◌, Option, Some, None, filter, refl, ap, ◌∙◌, subst}
use Rattle.std.specs.declared.cmp.Ordering.{Ordering}
use Rattle.std.specs.declared.cmp.Ordering.TheVariants.{Less, Equal, Greater}
use Rattle.std.specs.Ordering.{match_ordering}
use Rattle.std.specs.List.{AllByRecursion}
use Rattle.ixp_num_tables.specs.Tables.{order, Ascends, find, put, without, if_there}
use Rattle.ixp_num_tables.proofs.AllItems.{all_both}
use Rattle.ixp_num_tables.proofs.Orders.{all_weaker, order_same}
use Rattle.ixp_num_tables.proofs.Places.{above_equal, above_greater, find_above, without_above}
use Rattle.ixp_num_tables.proofs.TableLaws.{find_past, find_first, find-put-same-key, find-put-other, find-without-other, find-equal-key, without-absent}

module _ {R : Type 0} (key : R → List ℕ) where
  -- what holds of a row that is looked up still holds
  pub look_put : (g : Option R → Bool) (b : Bool) (r : R) (k : List ℕ) (rs : List R) → (order (key r) k ≡ Equal → g (find key k rs) ≡ b → g (Some r) ≡ b) → g (find key k rs) ≡ b → g (find key k (put key r rs)) ≡ b
  look_put g b r k rs same before = by_order (order (key r) k) refl where
    by_order : (o : Ordering) → order (key r) k ≡ o → g (find key k (put key r rs)) ≡ b
    by_order Less e = ap g (find-put-other key k r rs (λ eq. let bad : ⊥ = cc in bad)) ∙ before
    by_order Equal e = ap g (find-put-same-key key k r rs e) ∙ same e before
    by_order Greater e = ap g (find-put-other key k r rs (λ eq. let bad : ⊥ = cc in bad)) ∙ before

  pub look_without : (g : Option R → Bool) (b : Bool) (a k : List ℕ) (rs : List R) → (order a k ≡ Equal → ⊥) → g (find key a rs) ≡ b → g (find key a (without key k rs)) ≡ b
  look_without g b a k rs apart before = ap g (find-without-other key a k rs apart) ∙ before

  -- what is said of a row that is looked up stays, where it stays of the changed row
  pub look_kept : {U : Type 0} (f : Option R → U) (r : R) (rs : List R) (k : List ℕ) → f (Some r) ≡ f (find key (key r) rs) → f (find key k (put key r rs)) ≡ f (find key k rs)
  look_kept f r rs k e = by_order (order (key r) k) refl where
    by_order : (o : Ordering) → order (key r) k ≡ o → f (find key k (put key r rs)) ≡ f (find key k rs)
    by_order Less x = ap f (find-put-other key k r rs (λ eq. let bad : ⊥ = cc in bad))
    by_order Equal x = ap f (find-put-same-key key k r rs x) ∙ e ∙ ap f (find-equal-key key (key r) k rs x)
    by_order Greater x = ap f (find-put-other key k r rs (λ eq. let bad : ⊥ = cc in bad))

  -- of a row that is found holds what holds of all
  found_step : (P : R → Type 0) (k : List ℕ) (r s : R) (rs : List R) (o : Ordering) → P s → (find key k rs ≡ Some r → P r) → match_ordering o (find key k rs) (Some s) (find key k rs) ≡ Some r → P r
  found_step P k r s rs Less ps rest found = rest found
  found_step P k r s rs Equal ps rest found = let is : s ≡ r = cc in subst P is ps
  found_step P k r s rs Greater ps rest found = rest found

  pub all_found : (P : R → Type 0) (k : List ℕ) (r : R) (rs : List R) → AllByRecursion P rs → find key k rs ≡ Some r → P r
  all_found P k r [] all found = absurd (let bad : ⊥ = cc in bad)
  all_found P k r (s ∷ rs) all found = found_step P k r s rs (order (key s) k) all.0 (all_found P k r rs all.1) found

  -- each row is found by its key
  pub all_found_there : (rs : List R) → Ascends key rs → AllByRecursion (λ r. find key (key r) rs ≡ Some r) rs
  all_found_there [] up = tt
  all_found_there (r ∷ rs) up = (
    find_first key (key r) r rs (order_same (key r)),
    all_weaker (λ s. (order (key r) (key s) ≡ Less) × (find key (key s) rs ≡ Some s)) (λ s. find key (key s) (r ∷ rs) ≡ Some s)
        (λ s x. find_past key (key s) r rs (λ eq. let less = x.0 in let bad : ⊥ = cc in bad) ∙ x.1) rs
        (all_both (λ s. order (key r) (key s) ≡ Less) (λ s. find key (key s) rs ≡ Some s) rs up.0 (all_found_there rs up.1)),
  )

  -- what holds of all rows with other keys holds of all that are left
  pub all_others : (P : R → Type 0) (k : List ℕ) (rs : List R) → AllByRecursion (λ r. (order (key r) k ≡ Equal → ⊥) → P r) rs → AllByRecursion P (without key k rs)
  all_others P k [] all = tt
  all_others P k (r ∷ rs) all = by_order (order (key r) k) refl (all_others P k rs all.1) where
    by_order : (o : Ordering) → order (key r) k ≡ o → AllByRecursion P (without key k rs) → AllByRecursion P (match_ordering o (r ∷ without key k rs) (without key k rs) (r ∷ without key k rs))
    by_order Less e rest = (all.0 (λ eq. let bad : ⊥ = cc in bad), rest)
    by_order Equal e rest = rest
    by_order Greater e rest = (all.0 (λ eq. let bad : ⊥ = cc in bad), rest)

  put_filtered : (test : R → Bool) (r s : R) (rs : List R) (o : Ordering) → test r ≡ false → if_there (match_ordering o (find key (key r) rs) (Some s) (find key (key r) rs)) false test ≡ false
      → (if_there (find key (key r) rs) false test ≡ false → filter test (put key r rs) ≡ filter test rs)
      → filter test (match_ordering o (s ∷ put key r rs) (r ∷ rs) (r ∷ s ∷ rs)) ≡ filter test (s ∷ rs)
  put_filtered test r s rs Less new old rest = rw (rest old) refl
  put_filtered test r s rs Equal new old rest = rw (new, old) refl
  put_filtered test r s rs Greater new old rest = rw new refl

  -- a filter that takes neither the new row nor the old one
  pub filter_put : (test : R → Bool) (r : R) (rs : List R) → test r ≡ false → if_there (find key (key r) rs) false test ≡ false → filter test (put key r rs) ≡ filter test rs
  filter_put test r [] new old = rw new refl
  filter_put test r (s ∷ rs) new old = put_filtered test r s rs (order (key s) (key r)) new old (filter_put test r rs new)

  without_filtered : (test : R → Bool) (k : List ℕ) (s : R) (rs : List R) (o : Ordering) → if_there (match_ordering o (find key k rs) (Some s) (find key k rs)) false test ≡ false
      → (o ≡ Equal → find key k rs ≡ None)
      → (if_there (find key k rs) false test ≡ false → filter test (without key k rs) ≡ filter test rs)
      → filter test (match_ordering o (s ∷ without key k rs) (without key k rs) (s ∷ without key k rs)) ≡ filter test (s ∷ rs)
  without_filtered test k s rs Less old behind rest = rw (rest old) refl
  without_filtered test k s rs Equal old behind rest = rw (old, without-absent key k rs (behind refl)) refl
  without_filtered test k s rs Greater old behind rest = rw (rest old) refl

  pub filter_without : (test : R → Bool) (k : List ℕ) (rs : List R) → Ascends key rs → if_there (find key k rs) false test ≡ false → filter test (without key k rs) ≡ filter test rs
  filter_without test k [] up old = refl
  filter_without test k (s ∷ rs) up old = without_filtered test k s rs (order (key s) k) old (λ e. find_above key k rs (above_equal key s k rs e up.0)) (filter_without test k rs up.1)

  -- a row that is taken out and put in again
  put_above : (r : R) (rs : List R) → AllByRecursion (λ s. order (key s) (key r) ≡ Greater) rs → put key r rs ≡ r ∷ rs
  put_above r [] all = refl
  put_above r (s ∷ rs) all = rw all.0 refl

  again_step : (r s : R) (rs : List R) (o : Ordering) → order (key s) (key r) ≡ o → AllByRecursion (λ t. order (key s) (key t) ≡ Less) rs
      → put key r (without key (key r) rs) ≡ put key r rs
      → put key r (match_ordering o (s ∷ without key (key r) rs) (without key (key r) rs) (s ∷ without key (key r) rs)) ≡ match_ordering o (s ∷ put key r rs) (r ∷ rs) (r ∷ s ∷ rs)
  again_step r s rs Less e above rest = rw e (ap (λ (z : List R). s ∷ z) rest)
  again_step r s rs Equal e above rest = let far = above_equal key s (key r) rs e above in rest ∙ put_above r rs far
  again_step r s rs Greater e above rest = rw e (ap (λ (z : List R). r ∷ s ∷ z) (without_above key (key r) rs (above_greater key s (key r) rs e above)))

  pub put-without : (r : R) (rs : List R) → Ascends key rs → put key r (without key (key r) rs) ≡ put key r rs
  put-without r [] up = refl
  put-without r (s ∷ rs) up = again_step r s rs (order (key s) (key r)) refl up.0 (put-without r rs up.1)

-- a filter of joined lists of which it takes none of the first
pub filter_none : {X : Type 0} (test : X → Bool) (xs ys : List X) → AllByRecursion (λ x. test x ≡ false) xs → filter test (xs ++ ys) ≡ filter test ys
filter_none test [] ys all = refl
filter_none test (x ∷ xs) ys all = rw all.0 (filter_none test xs ys all.1)
