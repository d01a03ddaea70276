-- Sums over rows: of joined lists, in either order, and what a row that is put in or taken out does to them.
use Rattle.std.proofs.Common.{◌≡◌, ℕ, ◌+◌, ◌*◌, ◌≤◌, List, [], ◌∷◌, ◌++◌, flat_map, map, length, Option, Some, None, refl, sym, ap, subst, arith}
use Rattle.std.specs.declared.cmp.Ordering.{Ordering}
use Rattle.std.specs.declared.cmp.Ordering.TheVariants.{Less, Equal, Greater}
use Rattle.std.specs.Ordering.{match_ordering}
use Rattle.std.specs.List.{AllByRecursion}
use Rattle.ixp_num_tables.specs.Tables.{order, Ascends, find, put, without, if_there}
use Rattle.ixp_num_tables.specs.Sums.{total}
use Rattle.ixp_num_tables.proofs.Places.{above_equal, above_greater, find_above}
use Rattle.ixp_num_tables.proofs.TableLaws.{without-absent}

module _ {X : Type 0} where
  pub total_joined : (w : X → ℕ) (xs ys : List X) → total w (xs ++ ys) ≡ total w xs + total w ys
  total_joined w [] ys = omega arith
  total_joined w (x ∷ xs) ys = let e = total_joined w xs ys in omega (arith, e)

  pub total_least : (v w : X → ℕ) (xs : List X) → AllByRecursion (λ x. v x ≤ w x) xs → total v xs ≤ total w xs
  total_least v w [] all = omega arith
  total_least v w (x ∷ xs) all = let a = all.0 in let e = total_least v w xs all.1 in omega (arith, a, e)

  pub total_same : (v w : X → ℕ) (xs : List X) → AllByRecursion (λ x. v x ≡ w x) xs → total v xs ≡ total w xs
  total_same v w [] all = refl
  total_same v w (x ∷ xs) all = let e = total_same v w xs all.1 in let h = all.0 in omega (arith, e, h)

  pub total_none : (w : X → ℕ) (xs : List X) → AllByRecursion (λ x. w x ≡ 0) xs → total w xs ≡ 0
  total_none w [] all = refl
  total_none w (x ∷ xs) all = let e = total_none w xs all.1 in let z = all.0 in omega (arith, e, z)

  pub total_zero : (xs : List X) → total (λ x. 0) xs ≡ 0
  total_zero [] = refl
  total_zero (x ∷ xs) = let e = total_zero xs in omega (arith, e)

  pub total_const : (w : X → ℕ) (c : ℕ) (xs : List X) → AllByRecursion (λ x. w x ≡ c) xs → total w xs ≡ length xs * c
  total_const w c [] all = omega arith
  total_const w c (x ∷ xs) all = let e = total_const w c xs all.1 in let h = all.0 in omega (arith, e, h)

  pub total_plus : (v w : X → ℕ) (xs : List X) → total (λ x. v x + w x) xs ≡ total v xs + total w xs
  total_plus v w [] = omega arith
  total_plus v w (x ∷ xs) = let e = total_plus v w xs in omega (arith, e)

module _ {X Y : Type 0} where
  pub total_map : (w : Y → ℕ) (f : X → Y) (xs : List X) → total w (map f xs) ≡ total (λ x. w (f x)) xs
  total_map w f [] = refl
  total_map w f (x ∷ xs) = ap (λ n. w (f x) + n) (total_map w f xs)

  pub total_flat : (w : Y → ℕ) (f : X → List Y) (xs : List X) → total w (flat_map f xs) ≡ total (λ x. total w (f x)) xs
  total_flat w f [] = refl
  total_flat w f (x ∷ xs) = let e = total_flat w f xs in let j = total_joined w (f x) (flat_map f xs) in omega (arith, e, j)

  -- sums in either order
  pub exchanged : (g : X → Y → ℕ) (xs : List X) (ys : List Y) → total (λ x. total (g x) ys) xs ≡ total (λ y. total (λ x. g x y) xs) ys
  exchanged g [] ys = sym (total_zero ys)
  exchanged g (x ∷ xs) ys =
      let e = exchanged g xs ys in
      let p = total_plus (g x) (λ y. total (λ x. g x y) xs) ys in
      omega (arith, e, p)

module _ {R : Type 0} (key : R → List ℕ) where
  none_above : (k : List ℕ) (s : R) (rs : List R) → order (key s) k ≡ Greater → AllByRecursion (λ t. order (key s) (key t) ≡ Less) rs → find key k rs ≡ None
  none_above k s rs e above = find_above key k rs (above_greater key s k rs e above)

  none_behind : (k : List ℕ) (s : R) (rs : List R) → order (key s) k ≡ Equal → AllByRecursion (λ t. order (key s) (key t) ≡ Less) rs → find key k rs ≡ None
  none_behind k s rs e above = find_above key k rs (above_equal key s k rs e above)

  -- a sum over rows changes by the new row's weight and the old one's
  put_sum : (w : R → ℕ) (r s : R) (rs : List R) (o : Ordering) → order (key s) (key r) ≡ o → AllByRecursion (λ t. order (key s) (key t) ≡ Less) rs
      → total w (put key r rs) + if_there (find key (key r) rs) 0 w ≡ total w rs + w r
      → total w (match_ordering o (s ∷ put key r rs) (r ∷ rs) (r ∷ s ∷ rs)) + if_there (match_ordering o (find key (key r) rs) (Some s) (find key (key r) rs)) 0 w ≡ total w (s ∷ rs) + w r
  put_sum w r s rs Less e above rest = omega (arith, rest)
  put_sum w r s rs Equal e above rest = omega arith
  put_sum w r s rs Greater e above rest = rw (none_above (key r) s rs e above) (omega arith)

  pub total_put : (w : R → ℕ) (r : R) (rs : List R) → Ascends key rs → total w (put key r rs) + if_there (find key (key r) rs) 0 w ≡ total w rs + w r
  total_put w r [] up = omega arith
  total_put w r (s ∷ rs) up = put_sum w r s rs (order (key s) (key r)) refl up.0 (total_put w r rs up.1)

  without_sum : (w : R → ℕ) (k : List ℕ) (s : R) (rs : List R) (o : Ordering) → order (key s) k ≡ o → AllByRecursion (λ t. order (key s) (key t) ≡ Less) rs
      → total w (without key k rs) + if_there (find key k rs) 0 w ≡ total w rs
      → total w (match_ordering o (s ∷ without key k rs) (without key k rs) (s ∷ without key k rs)) + if_there (match_ordering o (find key k rs) (Some s) (find key k rs)) 0 w ≡ total w (s ∷ rs)
  without_sum w k s rs Less e above rest = omega (arith, rest)
  without_sum w k s rs Equal e above rest = rw (without-absent key k rs (none_behind k s rs e above)) (omega arith)
  without_sum w k s rs Greater e above rest = omega (arith, rest)

  pub total_without : (w : R → ℕ) (k : List ℕ) (rs : List R) → Ascends key rs → total w (without key k rs) + if_there (find key k rs) 0 w ≡ total w rs
  total_without w k [] up = omega arith
  total_without w k (s ∷ rs) up = without_sum w k s rs (order (key s) k) refl up.0 (total_without w k rs up.1)

  pub total_put_new : (w : R → ℕ) (r : R) (rs : List R) → Ascends key rs → total w (put key r rs) ≤ total w rs + w r
  total_put_new w r rs up = let e = total_put w r rs up in omega (arith, e)

  pub total_put_same : (w : R → ℕ) (r old : R) (rs : List R) → Ascends key rs → find key (key r) rs ≡ Some old → w r ≤ w old → total w (put key r rs) ≤ total w rs
  total_put_same w r old rs up found le =
      let e : total w (put key r rs) + w old ≡ total w rs + w r = subst (λ (o : Option R). total w (put key r rs) + if_there o 0 w ≡ total w rs + w r) found (total_put w r rs up) in
      omega (arith, e, le)

  pub total_fewer : (w : R → ℕ) (k : List ℕ) (rs : List R) → Ascends key rs → total w (without key k rs) ≤ total w rs
  total_fewer w k rs up = let e = total_without w k rs up in omega (arith, e)

  -- a sum to which the row of one key alone adds
  pub total_at : (k : List ℕ) (w : R → ℕ) (rs : List R) → Ascends key rs → ((r : R) → (order (key r) k ≡ Equal → ⊥) → w r ≡ 0) → total w rs ≡ if_there (find key k rs) 0 w
  total_at k w [] up zero = refl
  total_at k w (r ∷ rs) up zero = by_order (order (key r) k) refl (total_at k w rs up.1 zero) where
    by_order : (o : Ordering) → order (key r) k ≡ o → total w rs ≡ if_there (find key k rs) 0 w → w r + total w rs ≡ if_there (match_ordering o (find key k rs) (Some r) (find key k rs)) 0 w
    by_order Less e rest = let z = zero r (λ eq. let bad : ⊥ = cc in bad) in omega (arith, z, rest)
    by_order Equal e rest =
        let none : find key k rs ≡ None = find_above key k rs (above_equal key r k rs e up.0) in
        let rest' : total w rs ≡ 0 = subst (λ (o : Option R). total w rs ≡ if_there o 0 w) none rest in
        omega (arith, rest')
    by_order Greater e rest = let z = zero r (λ eq. let bad : ⊥ = cc in bad) in omega (arith, z, rest)
