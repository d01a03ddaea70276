-- Lists of the same ROAs say the same.
use Rattle.std.proofs.Common.{◌≡◌, Bool, true, false, List, refl, sym}
use Rattle.std.specs.List.{Contains, list_any}
use Rattle.std.proofs.lemmas.List.Folds.{Any-from_list_any, list_any-from_Any}

module _ {A : Type 0} (test : A → Bool) where
  moved : (xs ys : List A) → ((x : A) → Contains xs x → Contains ys x) → list_any test xs ≡ true → list_any test ys ≡ true
  moved xs ys there e =
      let some = Any-from_list_any test xs e in
      let at = there some.1 (some.0, some.2, some.3) in
      list_any-from_Any test ys (at.0, some.1, at.1, at.2, some.4)

  both : (a b : Bool) → (a ≡ true → b ≡ true) → (b ≡ true → a ≡ true) → a ≡ b
  both true b there back = sym (there refl)
  both false true there back = back refl
  both false false there back = refl

  pub same_any : (xs ys : List A) → ((x : A) → Contains xs x → Contains ys x) → ((x : A) → Contains ys x → Contains xs x) → list_any test xs ≡ list_any test ys
  same_any xs ys there back = both (list_any test xs) (list_any test ys) (moved xs ys there) (moved ys xs back)
