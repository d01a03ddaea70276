-- Putting in and taking out keep the order, and what is looked up afterwards.
use Rattle.std.proofs.Common.{◌≡◌, ℕ, List, [], ◌∷◌, ◌++◌, Option, Some, None, refl, sym, ap, ◌∙◌, subst}
use Rattle.std.specs.declared.cmp.Ordering.{Ordering}
use Rattle.std.specs.declared.cmp.Ordering.TheVariants.{Less, Equal, Greater}
use Rattle.std.specs.Ordering.{match_ordering}
use Rattle.std.specs.List.{AllByRecursion}
use Rattle.ixp_num_tables.specs.Tables.{order, Ascends, find, put, without}
use Rattle.ixp_num_tables.proofs.Orders.{turned, chained, order_same, as_equal, as_equal_right, all_weaker}
use Rattle.ixp_num_tables.proofs.Places.{above_greater, find_above}

module _ {R : Type 0} (key : R → List ℕ) where
  all_put_step : (P : R → Type 0) (r s : R) (rs : List R) (o : Ordering) → P r → P s → AllByRecursion P rs → AllByRecursion P (put key r rs) → AllByRecursion P (match_ordering o (s ∷ put key r rs) (r ∷ rs) (r ∷ s ∷ rs))
  all_put_step P r s rs Less pr ps rest after = (ps, after)
  all_put_step P r s rs Equal pr ps rest after = (pr, rest)
  all_put_step P r s rs Greater pr ps rest after = (pr, (ps, rest))

  pub all_put : (P : R → Type 0) (r : R) (rs : List R) → P r → AllByRecursion P rs → AllByRecursion P (put key r rs)
  all_put P r [] pr all = (pr, tt)
  all_put P r (s ∷ rs) pr all = all_put_step P r s rs (order (key s) (key r)) pr all.0 all.1 (all_put P r rs pr all.1)

  all_without_step : (P : R → Type 0) (r : R) (rs : List R) (o : Ordering) → P r → AllByRecursion P rs → AllByRecursion P (match_ordering o (r ∷ rs) rs (r ∷ rs))
  all_without_step P r rs Less pr rest = (pr, rest)
  all_without_step P r rs Equal pr rest = rest
  all_without_step P r rs Greater pr rest = (pr, rest)

  pub all_without : (P : R → Type 0) (k : List ℕ) (rs : List R) → AllByRecursion P rs → AllByRecursion P (without key k rs)
  all_without P k [] all = tt
  all_without P k (r ∷ rs) all = all_without_step P r (without key k rs) (order (key r) k) all.0 (all_without P k rs all.1)

  -- the order is kept
  put_ascends_step : (r s : R) (rs : List R) (o : Ordering) → order (key s) (key r) ≡ o → AllByRecursion (λ t. order (key s) (key t) ≡ Less) rs → Ascends key rs → Ascends key (put key r rs) → Ascends key (match_ordering o (s ∷ put key r rs) (r ∷ rs) (r ∷ s ∷ rs))
  put_ascends_step r s rs Less e above up after = (all_put (λ t. order (key s) (key t) ≡ Less) r rs e above, after)
  put_ascends_step r s rs Equal e above up after = (all_weaker (λ t. order (key s) (key t) ≡ Less) (λ t. order (key r) (key t) ≡ Less) (λ t less. sym (as_equal (key s) (key r) (key t) e) ∙ less) rs above, up)
  put_ascends_step r s rs Greater e above up after =
      let below = turned (key s) (key r) Greater e in
      ((below, all_weaker (λ t. order (key s) (key t) ≡ Less) (λ t. order (key r) (key t) ≡ Less) (λ t less. chained (key r) (key s) (key t) below less) rs above), (above, up))

  pub Ascends-put : (r : R) (rs : List R) → Ascends key rs → Ascends key (put key r rs)
  Ascends-put r [] up = (tt, tt)
  Ascends-put r (s ∷ rs) up = put_ascends_step r s rs (order (key s) (key r)) refl up.0 up.1 (Ascends-put r rs up.1)

  without_ascends_step : (k : List ℕ) (r : R) (rs : List R) (o : Ordering) → AllByRecursion (λ t. order (key r) (key t) ≡ Less) rs → Ascends key (without key k rs) → Ascends key (match_ordering o (r ∷ without key k rs) (without key k rs) (r ∷ without key k rs))
  without_ascends_step k r rs Less above after = (all_without (λ t. order (key r) (key t) ≡ Less) k rs above, after)
  without_ascends_step k r rs Equal above after = after
  without_ascends_step k r rs Greater above after = (all_without (λ t. order (key r) (key t) ≡ Less) k rs above, after)

  pub Ascends-without : (k : List ℕ) (rs : List R) → Ascends key rs → Ascends key (without key k rs)
  Ascends-without k [] up = tt
  Ascends-without k (r ∷ rs) up = without_ascends_step k r rs (order (key r) k) up.0 (Ascends-without k rs up.1)

  -- one look-up more: of a row that is below or above the key, and of the row that has it
  pub find_past : (k : List ℕ) (r : R) (rs : List R) → (order (key r) k ≡ Equal → ⊥) → find key k (r ∷ rs) ≡ find key k rs
  find_past k r rs apart = step (order (key r) k) apart where
    step : (o : Ordering) → (o ≡ Equal → ⊥) → match_ordering o (find key k rs) (Some r) (find key k rs) ≡ find key k rs
    step Less other = refl
    step Equal other = absurd (other refl)
    step Greater other = refl

  pub find_first : (k : List ℕ) (r : R) (rs : List R) → order (key r) k ≡ Equal → find key k (r ∷ rs) ≡ Some r
  find_first k r rs e = ap (λ o. match_ordering o (find key k rs) (Some r) (find key k rs)) e

  -- equal keys find the same row
  pub find-equal-key : (a b : List ℕ) (rs : List R) → order a b ≡ Equal → find key a rs ≡ find key b rs
  find-equal-key a b [] e = refl
  find-equal-key a b (r ∷ rs) e =
      ap (λ o. match_ordering o (find key a rs) (Some r) (find key a rs)) (as_equal_right a b (key r) e)
      ∙ ap (λ f. match_ordering (order (key r) b) f (Some r) f) (find-equal-key a b rs e)

  put_found_step : (k : List ℕ) (r s : R) (rs : List R) (o : Ordering) → order (key s) (key r) ≡ o → order (key r) k ≡ Equal → find key k (put key r rs) ≡ Some r → find key k (match_ordering o (s ∷ put key r rs) (r ∷ rs) (r ∷ s ∷ rs)) ≡ Some r
  put_found_step k r s rs Less e same after = find_past k s (put key r rs) (λ equal. let less = sym (as_equal_right (key r) k (key s) same) ∙ e in cc) ∙ after
  put_found_step k r s rs Equal e same after = find_first k r rs same
  put_found_step k r s rs Greater e same after = find_first k r (s ∷ rs) same

  -- a row that was put in is found by its key
  pub find-put-same-key : (k : List ℕ) (r : R) (rs : List R) → order (key r) k ≡ Equal → find key k (put key r rs) ≡ Some r
  find-put-same-key k r [] same = find_first k r [] same
  find-put-same-key k r (s ∷ rs) same = put_found_step k r s rs (order (key s) (key r)) refl same (find-put-same-key k r rs same)

  put_other_step : (k : List ℕ) (r s : R) (rs : List R) (o : Ordering) → order (key s) (key r) ≡ o → (order (key r) k ≡ Equal → ⊥) → find key k (put key r rs) ≡ find key k rs → find key k (match_ordering o (s ∷ put key r rs) (r ∷ rs) (r ∷ s ∷ rs)) ≡ find key k (s ∷ rs)
  put_other_step k r s rs Less e apart after = ap (λ f. match_ordering (order (key s) k) f (Some s) f) after
  put_other_step k r s rs Equal e apart after = find_past k r rs apart ∙ sym (find_past k s rs (λ equal. apart (sym (as_equal (key s) (key r) k e) ∙ equal)))
  put_other_step k r s rs Greater e apart after = find_past k r (s ∷ rs) apart

  -- and other keys find what they found
  pub find-put-other : (k : List ℕ) (r : R) (rs : List R) → (order (key r) k ≡ Equal → ⊥) → find key k (put key r rs) ≡ find key k rs
  find-put-other k r [] apart = find_past k r [] apart
  find-put-other k r (s ∷ rs) apart = put_other_step k r s rs (order (key s) (key r)) refl apart (find-put-other k r rs apart)

  without_same_step : (a k : List ℕ) (r : R) (rs : List R) (o : Ordering) → order (key r) k ≡ o → order a k ≡ Equal → find key a (without key k rs) ≡ None → find key a (match_ordering o (r ∷ without key k rs) (without key k rs) (r ∷ without key k rs)) ≡ None
  without_same_step a k r rs Less e same after = find_past a r (without key k rs) (λ equal. let less = as_equal_right a k (key r) same ∙ e in cc) ∙ after
  without_same_step a k r rs Equal e same after = after
  without_same_step a k r rs Greater e same after = find_past a r (without key k rs) (λ equal. let more = as_equal_right a k (key r) same ∙ e in cc) ∙ after

  -- what was taken out isn't found
  pub find-without-same : (a k : List ℕ) (rs : List R) → order a k ≡ Equal → find key a (without key k rs) ≡ None
  find-without-same a k [] same = refl
  find-without-same a k (r ∷ rs) same = without_same_step a k r rs (order (key r) k) refl same (find-without-same a k rs same)

  without_other_step : (a k : List ℕ) (r : R) (rs : List R) (o : Ordering) → order (key r) k ≡ o → (order a k ≡ Equal → ⊥) → find key a (without key k rs) ≡ find key a rs → find key a (match_ordering o (r ∷ without key k rs) (without key k rs) (r ∷ without key k rs)) ≡ find key a (r ∷ rs)
  without_other_step a k r rs Less e apart after = ap (λ f. match_ordering (order (key r) a) f (Some r) f) after
  without_other_step a k r rs Equal e apart after = after ∙ sym (find_past a r rs (λ equal. apart (sym (as_equal (key r) a k equal) ∙ e)))
  without_other_step a k r rs Greater e apart after = ap (λ f. match_ordering (order (key r) a) f (Some r) f) after

  pub find-without-other : (a k : List ℕ) (rs : List R) → (order a k ≡ Equal → ⊥) → find key a (without key k rs) ≡ find key a rs
  find-without-other a k [] apart = refl
  find-without-other a k (r ∷ rs) apart = without_other_step a k r rs (order (key r) k) refl apart (find-without-other a k rs apart)

  absent_step : (k : List ℕ) (r : R) (rs : List R) (o : Ordering) → match_ordering o (find key k rs) (Some r) (find key k rs) ≡ None → (find key k rs ≡ None → without key k rs ≡ rs) → match_ordering o (r ∷ without key k rs) (without key k rs) (r ∷ without key k rs) ≡ r ∷ rs
  absent_step k r rs Less none after = ap (λ ss. r ∷ ss) (after none)
  absent_step k r rs Equal none after = cc
  absent_step k r rs Greater none after = ap (λ ss. r ∷ ss) (after none)

  some_same : (r s : R) → ◌≡◌ {A = Option R} (Some r) (Some s) → r ≡ s
  some_same r s e = cc

  -- taking out what isn't there changes nothing
  pub without-absent : (k : List ℕ) (rs : List R) → find key k rs ≡ None → without key k rs ≡ rs
  without-absent k [] none = refl
  without-absent k (r ∷ rs) none = absent_step k r rs (order (key r) k) none (without-absent k rs)

  -- a row that was put in anew and is taken out again leaves the rows as they were
  undone_step : (r s : R) (rs : List R) (o : Ordering) → order (key s) (key r) ≡ o → match_ordering o (find key (key r) rs) (Some s) (find key (key r) rs) ≡ None → (find key (key r) rs ≡ None → without key (key r) (put key r rs) ≡ rs) → without key (key r) (match_ordering o (s ∷ put key r rs) (r ∷ rs) (r ∷ s ∷ rs)) ≡ s ∷ rs
  undone_step r s rs Less e none after = ap (λ o. match_ordering o (s ∷ without key (key r) (put key r rs)) (without key (key r) (put key r rs)) (s ∷ without key (key r) (put key r rs))) e ∙ ap (λ ss. s ∷ ss) (after none)
  undone_step r s rs Equal e none after = cc
  undone_step r s rs Greater e none after =
      ap (λ o. match_ordering o (r ∷ without key (key r) (s ∷ rs)) (without key (key r) (s ∷ rs)) (r ∷ without key (key r) (s ∷ rs))) (order_same (key r))
      ∙ (ap (λ o. match_ordering o (s ∷ without key (key r) rs) (without key (key r) rs) (s ∷ without key (key r) rs)) e ∙ ap (λ ss. s ∷ ss) (without-absent (key r) rs none))

  pub without-put : (r : R) (rs : List R) → find key (key r) rs ≡ None → without key (key r) (put key r rs) ≡ rs
  without-put r [] none = ap (λ o. match_ordering o (r ∷ []) [] (r ∷ [])) (order_same (key r))
  without-put r (s ∷ rs) none = undone_step r s rs (order (key s) (key r)) refl none (without-put r rs)

  -- a row that was put in the place of another, and the other put back
  back_step : (r old s : R) (rs : List R) (o : Ordering) → order (key s) (key r) ≡ o → order (key r) (key old) ≡ Equal → AllByRecursion (λ t. order (key s) (key t) ≡ Less) rs → match_ordering o (find key (key r) rs) (Some s) (find key (key r) rs) ≡ Some old → (find key (key r) rs ≡ Some old → put key old (put key r rs) ≡ rs) → put key old (match_ordering o (s ∷ put key r rs) (r ∷ rs) (r ∷ s ∷ rs)) ≡ s ∷ rs
  back_step r old s rs Less e same above found after =
      ap (λ o. match_ordering o (s ∷ put key old (put key r rs)) (old ∷ put key r rs) (old ∷ s ∷ put key r rs)) (sym (as_equal_right (key r) (key old) (key s) same) ∙ e)
      ∙ ap (λ ss. s ∷ ss) (after found)
  back_step r old s rs Equal e same above found after =
      let is : s ≡ old = some_same s old found in
      ap (λ o. match_ordering o (r ∷ put key old rs) (old ∷ rs) (old ∷ r ∷ rs)) same ∙ ap (λ x. x ∷ rs) (sym is)
  back_step r old s rs Greater e same above found after = let none = find_above key (key r) rs (above_greater key s (key r) rs e above) in cc

  same_key_step : (k : List ℕ) (old s : R) (rs : List R) (o : Ordering) → order (key s) k ≡ o → match_ordering o (find key k rs) (Some s) (find key k rs) ≡ Some old → (find key k rs ≡ Some old → order (key old) k ≡ Equal) → order (key old) k ≡ Equal
  same_key_step k old s rs Less e found after = after found
  same_key_step k old s rs Equal e found after = let is : s ≡ old = some_same s old found in subst (λ x. order (key x) k ≡ Equal) is e
  same_key_step k old s rs Greater e found after = after found

  -- what is found has the key
  pub find-key : (k : List ℕ) (r : R) (rs : List R) → find key k rs ≡ Some r → order (key r) k ≡ Equal
  find-key k r [] found = cc
  find-key k r (s ∷ rs) found = same_key_step k r s rs (order (key s) k) refl found (find-key k r rs)

  put_back : (r old : R) (rs : List R) → order (key r) (key old) ≡ Equal → Ascends key rs → find key (key r) rs ≡ Some old → put key old (put key r rs) ≡ rs
  put_back r old [] same up found = cc
  put_back r old (s ∷ rs) same up found = back_step r old s rs (order (key s) (key r)) refl same up.0 found (put_back r old rs same up.1)

  pub put-put : (r old : R) (rs : List R) → Ascends key rs → find key (key r) rs ≡ Some old → put key old (put key r rs) ≡ rs
  put-put r old rs up found = put_back r old rs (turned (key old) (key r) Equal (find-key (key r) old rs found)) up found

  -- a row above all others is put at the end
  pub put-last : (r : R) (rs : List R) → AllByRecursion (λ s. order (key s) (key r) ≡ Less) rs → put key r rs ≡ rs ++ r ∷ []
  put-last r [] all = refl
  put-last r (s ∷ rs) all = ap (λ o. match_ordering o (s ∷ put key r rs) (r ∷ rs) (r ∷ s ∷ rs)) all.0 ∙ ap (λ ss. s ∷ ss) (put-last r rs all.1)
