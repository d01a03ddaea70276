-- There is one ascending list of given members.
use Rattle.std.proofs.Common.{◌≡◌, ℕ, zero, suc, List, [], ◌∷◌, ◌⊎◌, inl, inr, refl, sym, ap, ◌∙◌, subst, arith}
use Rattle.std.specs.declared.cmp.Ordering.TheVariants.{Less}
use Rattle.std.specs.List.{Contains, AllByRecursion}
use Rattle.ixp_num_tables.specs.Tables.{order, Ascends}
use Rattle.ixp_num_tables.proofs.Orders.{chained, order_same}
use Rattle.ixp_num_sorted.specs.Sorted.{IsInOrder}

module _ {A : Type 0} (key : A → List ℕ) where
  first_in : (x : A) (xs : List A) → Contains (x ∷ xs) x
  first_in x xs = (0, omega arith, refl)

  later_in : (y x : A) (xs : List A) → Contains xs x → Contains (y ∷ xs) x
  later_in y x xs (k, inside, is) = (suc k, omega arith, is)

  in_cases : (y x : A) (xs : List A) → Contains (y ∷ xs) x → (y ≡ x) ⊎ Contains xs x
  in_cases y x xs (zero, inside, is) = inl is
  in_cases y x xs (suc k, inside, is) = inr (k, omega arith, is)

  none_in : (x : A) → Contains [] x → ⊥
  none_in x (k, inside, is) = omega arith

  all_of : (P : A → Type 0) (x : A) (xs : List A) → AllByRecursion P xs → Contains xs x → P x
  all_of P x [] all here = absurd (none_in x here)
  all_of P x (y ∷ ys) all here = by (in_cases y x ys here) (λ later. all_of P x ys all.1 later) where
    by : (y ≡ x) ⊎ Contains ys x → (Contains ys x → P x) → P x
    by (inl same) rest = subst P same all.0
    by (inr later) rest = rest later

  never_below_itself : (x : A) → order (key x) (key x) ≡ Less → ⊥
  never_below_itself x less = let tie = order_same (key x) in let bad : ⊥ = cc in bad

  heads : (x y : A) → (y ≡ x) ⊎ (order (key y) (key x) ≡ Less) → (x ≡ y) ⊎ (order (key x) (key y) ≡ Less) → x ≡ y
  heads x y (inl same) b = sym same
  heads x y (inr less) (inl same) = same
  heads x y (inr less) (inr more) = absurd (never_below_itself x (chained (key x) (key y) (key x) more less))

  either : (x y : A) (ys : List A) → AllByRecursion (λ z. order (key y) (key z) ≡ Less) ys → (y ≡ x) ⊎ Contains ys x → (y ≡ x) ⊎ (order (key y) (key x) ≡ Less)
  either x y ys all (inl same) = inl same
  either x y ys all (inr later) = inr (all_of (λ z. order (key y) (key z) ≡ Less) x ys all later)

  behind : (x y z : A) (ys : List A) → order (key x) (key z) ≡ Less → x ≡ y → (y ≡ z) ⊎ Contains ys z → Contains ys z
  behind x y z ys less same (inl is) = absurd (never_below_itself x (subst (λ w. order (key x) (key w) ≡ Less) (sym (same ∙ is)) less))
  behind x y z ys less same (inr later) = later

  one_list : (xs ys : List A) → Ascends key xs → Ascends key ys → ((z : A) → Contains xs z → Contains ys z) → ((z : A) → Contains ys z → Contains xs z) → xs ≡ ys
  one_list [] [] up down there back = refl
  one_list [] (y ∷ ys) up down there back = absurd (none_in y (back y (first_in y ys)))
  one_list (x ∷ xs) [] up down there back = absurd (none_in x (there x (first_in x xs)))
  one_list (x ∷ xs) (y ∷ ys) up down there back =
      let same : x ≡ y = heads x y (either x y ys down.0 (in_cases y x ys (there x (first_in x xs)))) (either y x xs up.0 (in_cases x y xs (back y (first_in y ys)))) in
      let rest : xs ≡ ys = one_list xs ys up.1 down.1
      (λ z in_xs. behind x y z ys (all_of (λ w. order (key x) (key w) ≡ Less) z xs up.0 in_xs) same (in_cases y z ys (there z (later_in x z xs in_xs))))
      (λ z in_ys. behind y x z xs (all_of (λ w. order (key y) (key w) ≡ Less) z ys down.0 in_ys) (sym same) (in_cases x z xs (back z (later_in y z ys in_ys)))) in
      ap (λ w. w ∷ xs) same ∙ ap (λ ws. y ∷ ws) rest

  pub one_order : (items xs ys : List A) → IsInOrder key items xs → IsInOrder key items ys → xs ≡ ys
  one_order items xs ys one other = one_list xs ys one.ascends other.ascends (λ z in_xs. other.keeps z (one.adds_none z in_xs)) (λ z in_ys. one.keeps z (other.adds_none z in_ys))
