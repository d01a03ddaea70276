-- What a list has; lists with the same items, and lists whose keys don't fall. But for `Has` nobody needs to
-- believe these: they serve proofs.
use Rattle.std.specs.Prelude.{◌≡◌, ◌⊎◌, ℕ, Bool, false, List, [], ◌∷◌}
use Rattle.std.specs.Ordering.{is_lt}
use Rattle.std.specs.List.{AllByRecursion}
use Rattle.ixp_num_tables.specs.Tables.{order, same}

-- the list has the item
abbrev pub Has : {X : Type 0} → List X → X → Type 0
Has [] x = ⊥
Has (y ∷ ys) x = (x ≡ y) ⊎ Has ys x

-- each has the items of the other
pub record Same {X : Type 0} (xs ys : List X) : Type 0 where
  pub to : (x : X) → Has xs x → Has ys x
  pub back : (x : X) → Has ys x → Has xs x

-- no key is below one that stands before it
abbrev pub Rises : {X : Type 0} → (X → List ℕ) → List X → Type 0
Rises key [] = Unit {0}
Rises key (x ∷ xs) = AllByRecursion (λ y. is_lt (order (key y) (key x)) ≡ false) xs × Rises key xs

-- whether two items have one key
abbrev pub distinct_by : {X : Type 0} → (X → List ℕ) → X → X → Bool
distinct_by key x y = same (key x) (key y)
