-- A list that ascends by an order of keys is in the order of the keys.
use Rattle.std.proofs.Common.{◌≡◌, ℕ, Bool, true, List, [], ◌∷◌, refl, sym, ◌∙◌, subst}
use Rattle.std.specs.declared.cmp.Ordering.{Ordering}
use Rattle.std.specs.declared.cmp.Ordering.TheVariants.{Less, Equal, Greater}
use Rattle.std.specs.Ordering.{is_eq}
use Rattle.std.specs.List.{Any, Contains}
use Rattle.std.specs.List.Sorted.{IsStrictlySortedBy}
use Rattle.ixp_num_tables.specs.Tables.{order, Ascends}
use Rattle.ixp_num_tables.proofs.Orders.{all_weaker}

tied : (o : Ordering) → is_eq o ≡ true → o ≡ Equal
tied Less e = absurd (let bad : ⊥ = cc in bad)
tied Equal e = refl
tied Greater e = absurd (let bad : ⊥ = cc in bad)

module _ {A : Type 0} (key : A → List ℕ) (cmp : A → A → Ordering) (ordered : (a b : A) → cmp a b ≡ order (key a) (key b)) where
  pub ascends : (xs : List A) → IsStrictlySortedBy cmp xs → Ascends key xs
  unfolding IsStrictlySortedBy
  ascends [] up = tt
  ascends (x ∷ xs) up = (all_weaker (λ y. cmp x y ≡ Less) (λ y. order (key x) (key y) ≡ Less) (λ y e. sym (ordered x y) ∙ e) xs up.0, ascends xs up.1)

  -- an item that equals one of the list is that one
  pub there : (eq : A → A → Bool) → ((a b : A) → eq a b ≡ is_eq (cmp a b)) → ((a b : A) → order (key a) (key b) ≡ Equal → a ≡ b) → (x : A) (xs : List A) → Any (λ y. eq x y ≡ true) xs → Contains xs x
  there eq matches one x xs (k, y, inside, at, e) = subst (Contains xs) (sym (one x y (sym (ordered x y) ∙ tied (cmp x y) (sym (matches x y) ∙ e)))) (k, inside, at)
