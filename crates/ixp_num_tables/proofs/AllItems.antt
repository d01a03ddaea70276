-- Facts on every item of a list.
use Rattle.std.proofs.Common.{◌≡◌, Bool, false, ◌||◌, List, [], ◌∷◌, ◌++◌, map, flat_map, refl, ap, ◌∙◌}
use Rattle.std.specs.List.{AllByRecursion, list_any}
use Rattle.std.proofs.lemmas.Bool.{or_parts}

module _ {X : Type 0} where
  pub all_both : (P Q : X → Type 0) (xs : List X) → AllByRecursion P xs → AllByRecursion Q xs → AllByRecursion (λ x. P x × Q x) xs
  all_both P Q [] a b = tt
  all_both P Q (x ∷ xs) a b = ((a.0, b.0), all_both P Q xs a.1 b.1)

  pub all_true : (P : X → Type 0) → ((x : X) → P x) → (xs : List X) → AllByRecursion P xs
  all_true P every [] = tt
  all_true P every (x ∷ xs) = (every x, all_true P every xs)

  -- of joined lists
  pub all_left : (P : X → Type 0) (xs ys : List X) → AllByRecursion P (xs ++ ys) → AllByRecursion P xs
  all_left P [] ys all = tt
  all_left P (x ∷ xs) ys all = (all.0, all_left P xs ys all.1)

  pub all_right : (P : X → Type 0) (xs ys : List X) → AllByRecursion P (xs ++ ys) → AllByRecursion P ys
  all_right P [] ys all = all
  all_right P (x ∷ xs) ys all = all_right P xs ys all.1

  pub all_joined : (P : X → Type 0) (xs ys : List X) → AllByRecursion P xs → AllByRecursion P ys → AllByRecursion P (xs ++ ys)
  all_joined P [] ys a b = b
  all_joined P (x ∷ xs) ys a b = (a.0, all_joined P xs ys a.1 b)

  -- what none of them passes
  pub any_none : (p : X → Bool) (xs : List X) → AllByRecursion (λ x. p x ≡ false) xs → list_any p xs ≡ false
  any_none p [] all = refl
  any_none p (x ∷ xs) all = ap (λ b. b || list_any p xs) all.0 ∙ any_none p xs all.1

  pub none_any : (p : X → Bool) (xs : List X) → list_any p xs ≡ false → AllByRecursion (λ x. p x ≡ false) xs
  none_any p [] none = tt
  none_any p (x ∷ xs) none = let both = or_parts (p x) (list_any p xs) none in (both.0, none_any p xs both.1)

  -- several facts on every item make one
  pub zip : {P Q S : X → Type 0} (xs : List X) → AllByRecursion P xs → AllByRecursion Q xs → ((x : X) → P x → Q x → S x) → AllByRecursion S xs
  zip [] a b step = tt
  zip (x ∷ xs) a b step = (step x a.0 b.0, zip xs a.1 b.1 step)

  pub zip3 : {P Q R S : X → Type 0} (xs : List X) → AllByRecursion P xs → AllByRecursion Q xs → AllByRecursion R xs → ((x : X) → P x → Q x → R x → S x) → AllByRecursion S xs
  zip3 [] a b c step = tt
  zip3 (x ∷ xs) a b c step = (step x a.0 b.0 c.0, zip3 xs a.1 b.1 c.1 step)

  pub zip4 : {P Q R T S : X → Type 0} (xs : List X) → AllByRecursion P xs → AllByRecursion Q xs → AllByRecursion R xs → AllByRecursion T xs → ((x : X) → P x → Q x → R x → T x → S x) → AllByRecursion S xs
  zip4 [] a b c d step = tt
  zip4 (x ∷ xs) a b c d step = (step x a.0 b.0 c.0 d.0, zip4 xs a.1 b.1 c.1 d.1 step)

  pub zip5 : {P Q R T U S : X → Type 0} (xs : List X) → AllByRecursion P xs → AllByRecursion Q xs → AllByRecursion R xs → AllByRecursion T xs → AllByRecursion U xs → ((x : X) → P x → Q x → R x → T x → U x → S x) → AllByRecursion S xs
  zip5 [] a b c d e step = tt
  zip5 (x ∷ xs) a b c d e step = (step x a.0 b.0 c.0 d.0 e.0, zip5 xs a.1 b.1 c.1 d.1 e.1 step)

-- of items that are made of others
module _ {X Y : Type 0} where
  pub all_mapped : (P : Y → Type 0) (f : X → Y) (xs : List X) → AllByRecursion P (map f xs) → AllByRecursion (λ x. P (f x)) xs
  all_mapped P f [] all = tt
  all_mapped P f (x ∷ xs) all = (all.0, all_mapped P f xs all.1)

  pub mapped_all : (P : Y → Type 0) (f : X → Y) (xs : List X) → AllByRecursion (λ x. P (f x)) xs → AllByRecursion P (map f xs)
  mapped_all P f [] all = tt
  mapped_all P f (x ∷ xs) all = (all.0, mapped_all P f xs all.1)

  pub all_flat : (P : Y → Type 0) (f : X → List Y) (xs : List X) → AllByRecursion P (flat_map f xs) → AllByRecursion (λ x. AllByRecursion P (f x)) xs
  all_flat P f [] all = tt
  all_flat P f (x ∷ xs) all = (all_left P (f x) (flat_map f xs) all, all_flat P f xs (all_right P (f x) (flat_map f xs) all))

  pub flat_all : (P : Y → Type 0) (f : X → List Y) (xs : List X) → AllByRecursion (λ x. AllByRecursion P (f x)) xs → AllByRecursion P (flat_map f xs)
  flat_all P f [] all = tt
  flat_all P f (x ∷ xs) all = all_joined P (f x) (flat_map f xs) all.0 (flat_all P f xs all.1)
