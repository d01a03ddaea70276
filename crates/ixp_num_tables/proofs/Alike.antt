-- Tables that answer every look-up alike are the same, and what is made of some rows of a table.
use Rattle.std.proofs.Common.{◌≡◌, ℕ, List, [], ◌∷◌, Option, Some, None, filter_map, refl, sym, ap, ◌∙◌, subst}
use Rattle.std.specs.declared.cmp.Ordering.{Ordering}
use Rattle.std.specs.declared.cmp.Ordering.TheVariants.{Less, Equal, Greater}
use Rattle.std.specs.Ordering.{match_ordering}
use Rattle.std.specs.List.{AllByRecursion}
use Rattle.ixp_num_tables.specs.Tables.{order, Ascends, find, if_there}
use Rattle.ixp_num_tables.proofs.Orders.{all_weaker, turned, chained, order_same}
use Rattle.ixp_num_tables.proofs.Places.{above_equal, find_above}
use Rattle.ixp_num_tables.proofs.TableLaws.{find_past, find_first}

module _ {R : Type 0} (key : R → List ℕ) where
  -- of a key below the first row's nothing is found
  below_none : (k : List ℕ) (y : R) (ys : List R) → order k (key y) ≡ Less → AllByRecursion (λ s. order (key y) (key s) ≡ Less) ys → find key k (y ∷ ys) ≡ None
  below_none k y ys e above = find_above key k (y ∷ ys) (turned k (key y) Less e, all_weaker (λ s. order (key y) (key s) ≡ Less) (λ s. order (key s) k ≡ Greater) (λ s x. turned k (key s) Less (chained k (key y) (key s) e x)) ys above)

  tails : (x : R) (xs ys : List R) → AllByRecursion (λ s. order (key x) (key s) ≡ Less) xs → AllByRecursion (λ s. order (key x) (key s) ≡ Less) ys
      → ((z : R) → find key (key z) (x ∷ xs) ≡ find key (key z) (x ∷ ys)) → (z : R) → find key (key z) xs ≡ find key (key z) ys
  tails x xs ys a b alike z = by_order (order (key x) (key z)) refl where
    other : (order (key x) (key z) ≡ Equal → ⊥) → find key (key z) xs ≡ find key (key z) ys
    other far = sym (find_past key (key z) x xs far) ∙ alike z ∙ find_past key (key z) x ys far

    by_order : (o : Ordering) → order (key x) (key z) ≡ o → find key (key z) xs ≡ find key (key z) ys
    by_order Less e = other (λ eq. let bad : ⊥ = cc in bad)
    by_order Greater e = other (λ eq. let bad : ⊥ = cc in bad)
    by_order Equal e = find_above key (key z) xs (above_equal key x (key z) xs e a) ∙ sym (find_above key (key z) ys (above_equal key x (key z) ys e b))

  pub one_table : (xs ys : List R) → Ascends key xs → Ascends key ys → ((z : R) → find key (key z) xs ≡ find key (key z) ys) → xs ≡ ys
  one_table [] [] a b alike = refl
  one_table (x ∷ xs) [] a b alike = let e = sym (find_first key (key x) x xs (order_same (key x))) ∙ alike x in absurd (let bad : ⊥ = cc in bad)
  one_table [] (y ∷ ys) a b alike = let e = alike y ∙ find_first key (key y) y ys (order_same (key y)) in absurd (let bad : ⊥ = cc in bad)
  one_table (x ∷ xs) (y ∷ ys) a b alike = by_order (order (key x) (key y)) refl (λ e. one_table xs ys a.1 b.1 e) where
    by_order : (o : Ordering) → order (key x) (key y) ≡ o → (((z : R) → find key (key z) xs ≡ find key (key z) ys) → xs ≡ ys) → x ∷ xs ≡ y ∷ ys
    by_order Less e rest = let f = sym (find_first key (key x) x xs (order_same (key x))) ∙ alike x ∙ below_none (key x) y ys e b.0 in absurd (let bad : ⊥ = cc in bad)
    by_order Greater e rest = let f = sym (below_none (key y) x xs (turned (key x) (key y) Greater e) a.0) ∙ alike y ∙ find_first key (key y) y ys (order_same (key y)) in absurd (let bad : ⊥ = cc in bad)
    by_order Equal e rest =
        let f : Some x ≡ Some y = sym (find_first key (key x) x xs (order_same (key x))) ∙ alike x ∙ find_first key (key x) y ys (turned (key x) (key y) Equal e) in
        let is : x ≡ y = cc in
        ap (λ (z : R). z ∷ xs) is ∙ ap (λ (zs : List R). y ∷ zs) (rest (tails x xs ys a.0
        (subst (λ z. AllByRecursion (λ s. order (key z) (key s) ≡ Less) ys) (sym is) b.0)
        (λ z. alike z ∙ ap (λ (w : R). find key (key z) (w ∷ ys)) (sym is))))

-- what is made of the rows for which something is made, each under its row's key
module _ {R S : Type 0} (key : R → List ℕ) (key' : S → List ℕ) (f : R → Option S) (keeps : (r : R) (s : S) → f r ≡ Some s → key' s ≡ key r) where
  all_step : (k : List ℕ) (r : R) (rs : List R) (o : Option S) → f r ≡ o → order k (key r) ≡ Less → AllByRecursion (λ s. order k (key' s) ≡ Less) (filter_map f rs) → AllByRecursion (λ s. order k (key' s) ≡ Less) (filter_map f (r ∷ rs))
  all_step k r rs None e x rest = rw e rest
  all_step k r rs (Some s) e x rest = rw e ((subst (λ z. order k z ≡ Less) (sym (keeps r s e)) x, rest))

  all_made : (k : List ℕ) (rs : List R) → AllByRecursion (λ s. order k (key s) ≡ Less) rs → AllByRecursion (λ s. order k (key' s) ≡ Less) (filter_map f rs)
  all_made k [] all = tt
  all_made k (r ∷ rs) all = all_step k r rs (f r) refl all.0 (all_made k rs all.1)

  ascends_step : (r : R) (rs : List R) (o : Option S) → f r ≡ o → AllByRecursion (λ s. order (key r) (key s) ≡ Less) rs → Ascends key' (filter_map f rs) → Ascends key' (filter_map f (r ∷ rs))
  ascends_step r rs None e above rest = rw e rest
  ascends_step r rs (Some s) e above rest = rw e ((subst (λ z. AllByRecursion (λ t. order z (key' t) ≡ Less) (filter_map f rs)) (sym (keeps r s e)) (all_made (key r) rs above), rest))

  pub Ascends-made : (rs : List R) → Ascends key rs → Ascends key' (filter_map f rs)
  Ascends-made [] up = tt
  Ascends-made (r ∷ rs) up = ascends_step r rs (f r) refl up.0 (Ascends-made rs up.1)

  find_step : (k : List ℕ) (r : R) (rs : List R) (w : Option S) (o : Ordering) → f r ≡ w → order (key r) k ≡ o → (o ≡ Equal → find key k rs ≡ None)
      → find key' k (filter_map f rs) ≡ if_there (find key k rs) None f
      → find key' k (filter_map f (r ∷ rs)) ≡ if_there (match_ordering o (find key k rs) (Some r) (find key k rs)) None f
  find_step k r rs None Less e x none rest = rw e rest
  find_step k r rs None Equal e x none rest = rw e (rest ∙ ap (λ (z : Option R). if_there z None f) (none refl))
  find_step k r rs None Greater e x none rest = rw e rest
  find_step k r rs (Some s) Less e x none rest = rw (e, keeps r s e, x) rest
  find_step k r rs (Some s) Equal e x none rest = rw (e, keeps r s e, x) refl
  find_step k r rs (Some s) Greater e x none rest = rw (e, keeps r s e, x) rest

  pub find_made : (k : List ℕ) (rs : List R) → Ascends key rs → find key' k (filter_map f rs) ≡ if_there (find key k rs) None f
  find_made k [] up = refl
  find_made k (r ∷ rs) up = find_step k r rs (f r) (order (key r) k) refl refl (λ e. find_above key k rs (above_equal key r k rs e up.0)) (find_made k rs up.1)
