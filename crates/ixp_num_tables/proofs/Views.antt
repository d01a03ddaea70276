-- What a look-up sees of some rows alone, which rows are found, and rows that come in ascending order.
use Rattle.std.proofs.Common.{◌≡◌, ℕ, suc, zero, ◌-◌, List, [], ◌∷◌, ◌++◌, length, Bool, true, false, cond, Option, Some, IfSome, refl, sym, ap, ◌∙◌, subst, arith}
use Rattle.std.specs.declared.cmp.Ordering.{Ordering}
use Rattle.std.specs.declared.cmp.Ordering.TheVariants.{Less, Equal, Greater}
use Rattle.std.specs.Ordering.{match_ordering}
use Rattle.std.specs.List.{AllByRecursion, Contains, slice_get, filter}
use Rattle.std.proofs.lemmas.List.Elements.{All-from_recursion, All-contains}
use Rattle.ixp_num_tables.specs.Tables.{order, Ascends, find, put, without}
use Rattle.ixp_num_tables.proofs.Orders.{chained, order_same}
use Rattle.ixp_num_tables.proofs.TableLaws.{find_past, find_first}

module _ {R : Type 0} (key : R → List ℕ) where
  -- the rows of an owner answer a look-up as all rows do, if the key is one of the owner's
  filter_step : (p : R → Bool) (k : List ℕ) (r : R) (rs : List R) (b : Bool) → p r ≡ b → (order (key r) k ≡ Equal → p r ≡ true) → find key k (filter p rs) ≡ find key k rs → find key k (cond b (r ∷ filter p rs) (filter p rs)) ≡ find key k (r ∷ rs)
  filter_step p k r rs true e own rest = ap (λ f. match_ordering (order (key r) k) f (Some r) f) rest
  filter_step p k r rs false e own rest = rest ∙ sym (find_past key k r rs (λ equal. let kept = own equal in cc))

  pub find-filter : (p : R → Bool) (k : List ℕ) (rs : List R) → ((r : R) → order (key r) k ≡ Equal → p r ≡ true) → find key k (filter p rs) ≡ find key k rs
  find-filter p k [] own = refl
  find-filter p k (r ∷ rs) own = filter_step p k r rs (p r) refl (own r) (find-filter p k rs own)

  filter_out : (p : R → Bool) (r : R) (rs : List R) → p r ≡ false → filter p (r ∷ rs) ≡ filter p rs
  filter_out p r rs e = ap (λ b. cond b (r ∷ filter p rs) (filter p rs)) e

  put_filter_step : (p : R → Bool) (r s : R) (rs : List R) (o : Ordering) → order (key s) (key r) ≡ o → p r ≡ false → (order (key s) (key r) ≡ Equal → p s ≡ false) → filter p (put key r rs) ≡ filter p rs → filter p (match_ordering o (s ∷ put key r rs) (r ∷ rs) (r ∷ s ∷ rs)) ≡ filter p (s ∷ rs)
  put_filter_step p r s rs Less e other alike rest = ap (λ f. cond (p s) (s ∷ f) f) rest
  put_filter_step p r s rs Equal e other alike rest = filter_out p r rs other ∙ sym (filter_out p s rs (alike e))
  put_filter_step p r s rs Greater e other alike rest = filter_out p r (s ∷ rs) other

  -- a row of another owner that is put in isn't seen
  pub filter-put-other : (p : R → Bool) (r : R) (rs : List R) → p r ≡ false → ((s : R) → order (key s) (key r) ≡ Equal → p s ≡ false) → filter p (put key r rs) ≡ filter p rs
  filter-put-other p r [] other alike = filter_out p r [] other
  filter-put-other p r (s ∷ rs) other alike = put_filter_step p r s rs (order (key s) (key r)) refl other (alike s) (filter-put-other p r rs other alike)

  without_filter_step : (p : R → Bool) (k : List ℕ) (r : R) (rs : List R) (o : Ordering) → order (key r) k ≡ o → (order (key r) k ≡ Equal → p r ≡ false) → filter p (without key k rs) ≡ filter p rs → filter p (match_ordering o (r ∷ without key k rs) (without key k rs) (r ∷ without key k rs)) ≡ filter p (r ∷ rs)
  without_filter_step p k r rs Less e other rest = ap (λ f. cond (p r) (r ∷ f) f) rest
  without_filter_step p k r rs Equal e other rest = rest ∙ sym (filter_out p r rs (other e))
  without_filter_step p k r rs Greater e other rest = ap (λ f. cond (p r) (r ∷ f) f) rest

  -- nor is one that is taken out
  pub filter-without-other : (p : R → Bool) (k : List ℕ) (rs : List R) → ((r : R) → order (key r) k ≡ Equal → p r ≡ false) → filter p (without key k rs) ≡ filter p rs
  filter-without-other p k [] other = refl
  filter-without-other p k (r ∷ rs) other = without_filter_step p k r rs (order (key r) k) refl (other r) (filter-without-other p k rs other)

  -- each row is found by its key
  pub find-in : (r : R) (rs : List R) → Ascends key rs → Contains rs r → find key (key r) rs ≡ Some r
  find-in r [] up (i, in_range, is) = absurd (let h : ⊥ = omega arith in h)
  find-in r (s ∷ rs) up (zero, in_range, is) = subst (λ x. find key (key r) (x ∷ rs) ≡ Some r) (sym is) (find_first key (key r) r rs (order_same (key r)))
  find-in r (s ∷ rs) up (suc i, in_range, is) =
      let there : Contains rs r = (i, omega arith, is) in
      let below = All-contains (λ t. order (key s) (key t) ≡ Less) rs r (All-from_recursion (λ t. order (key s) (key t) ≡ Less) rs up.0) there in
      find_past key (key r) s rs (λ equal. cc) ∙ find-in r rs up.1 there

  there_step : (k : List ℕ) (r s : R) (rs : List R) (o : Ordering) → match_ordering o (find key k rs) (Some s) (find key k rs) ≡ Some r → (find key k rs ≡ Some r → Contains rs r) → Contains (s ∷ rs) r
  there_step k r s rs Less found after = let there = after found in (suc there.0, omega arith, there.2)
  there_step k r s rs Equal found after = (0, omega arith, some_is s r found) where
    some_is : (a b : R) → ◌≡◌ {A = Option R} (Some a) (Some b) → a ≡ b
    some_is a b e = cc
  there_step k r s rs Greater found after = let there = after found in (suc there.0, omega arith, there.2)

  -- what is found is one of the rows
  pub find-there : (k : List ℕ) (r : R) (rs : List R) → find key k rs ≡ Some r → Contains rs r
  find-there k r [] found = cc
  find-there k r (s ∷ rs) found = there_step k r s rs (order (key s) k) found (find-there k r rs)

  -- the last row, if there is one, is below a row
  abbrev pub LastBelow : List R → R → Type 0
  LastBelow rs r = IfSome (slice_get rs (length rs - 1)) (λ s. order (key s) (key r) ≡ Less)

  last_behind : (s t : R) (rs : List R) (r : R) → LastBelow (s ∷ t ∷ rs) r → LastBelow (t ∷ rs) r
  last_behind s t rs r last = let e : length (s ∷ t ∷ rs) - 1 ≡ suc (length (t ∷ rs) - 1) = omega arith in rw e at last

  -- a row above the last one is above all
  pub all_below : (rs : List R) (r : R) → Ascends key rs → LastBelow rs r → AllByRecursion (λ s. order (key s) (key r) ≡ Less) rs
  all_below [] r up last = tt
  all_below (s ∷ []) r up last = (last, tt)
  all_below (s ∷ t ∷ rs) r up last =
      let rest = all_below (t ∷ rs) r up.1 (last_behind s t rs r last) in
      (chained (key s) (key t) (key r) up.0.0 rest.0, rest)

  and_last : (P : R → Type 0) (rs : List R) (r : R) → AllByRecursion P rs → P r → AllByRecursion P (rs ++ r ∷ [])
  and_last P [] r all p = (p, tt)
  and_last P (s ∷ rs) r all p = (all.0, and_last P rs r all.1 p)

  pub ascends_all : (rs : List R) (r : R) → Ascends key rs → AllByRecursion (λ s. order (key s) (key r) ≡ Less) rs → Ascends key (rs ++ r ∷ [])
  ascends_all [] r up all = (tt, tt)
  ascends_all (s ∷ rs) r up all = (and_last (λ t. order (key s) (key t) ≡ Less) rs r up.0 all.0, ascends_all rs r up.1 all.1)

  -- rows that ascend, and one above the last of them
  pub Ascends-more : (rs : List R) (r : R) → Ascends key rs → LastBelow rs r → Ascends key (rs ++ r ∷ [])
  Ascends-more rs r up last = ascends_all rs r up (all_below rs r up last)

  -- and no other row can stand behind them
  pub Ascends-last : (rs : List R) (r : R) (more : List R) → Ascends key (rs ++ r ∷ more) → LastBelow rs r
  Ascends-last [] r more up = tt
  Ascends-last (s ∷ []) r more up = up.0.0
  Ascends-last (s ∷ t ∷ rs) r more up =
      let e : length (s ∷ t ∷ rs) - 1 ≡ suc (length (t ∷ rs) - 1) = omega arith in
      rw e (Ascends-last (t ∷ rs) r more up.1)
