-- Lists that are joined.
use Rattle.std.proofs.Common.{◌≡◌, ℕ, zero, suc, take, drop, ◌+◌, add-one, map, List, [], ◌∷◌, ◌++◌, Bool, true, false, ◌||◌, ◌&&◌, refl, ap, sym, ◌∙◌, arith}
use Rattle.std.specs.List.{list_any, list_all}
use Rattle.ixp_registry.specs.Places.{first_with_earlier_from}

or_assoc : (a b c : Bool) → (a || b || c) ≡ (a || (b || c))
or_assoc true b c = refl
or_assoc false b c = refl

and_assoc : (a b c : Bool) → (a && b && c) ≡ (a && (b && c))
and_assoc true b c = refl
and_assoc false b c = refl

pub any_joined : {X : Type 0} (p : X → Bool) (xs ys : List X) → list_any p (xs ++ ys) ≡ (list_any p xs || list_any p ys)
any_joined p [] ys = refl
any_joined p (x ∷ xs) ys = ap (λ b. p x || b) (any_joined p xs ys) ∙ sym (or_assoc (p x) (list_any p xs) (list_any p ys))

pub all_joined : {X : Type 0} (p : X → Bool) (xs ys : List X) → list_all p (xs ++ ys) ≡ (list_all p xs && list_all p ys)
all_joined p [] ys = refl
all_joined p (x ∷ xs) ys = ap (λ b. p x && b) (all_joined p xs ys) ∙ sym (and_assoc (p x) (list_all p xs) (list_all p ys))

nothing_left : {X : Type 0} (i : ℕ) (x : X) (rest : List X) → x ∷ rest ≡ drop i [] → ⊥
nothing_left zero x rest h = cc
nothing_left (suc i) x rest h = cc

pub drop_next : {X : Type 0} (xs : List X) (i : ℕ) (x : X) (rest : List X) → x ∷ rest ≡ drop i xs → rest ≡ drop (suc i) xs
drop_next [] i x rest h = absurd (nothing_left i x rest h)
drop_next (y ∷ ys) zero x rest h = cc
drop_next (y ∷ ys) (suc i) x rest h = drop_next ys i x rest h

pub take_next : {X : Type 0} (xs : List X) (i : ℕ) (x : X) (rest : List X) → x ∷ rest ≡ drop i xs → take (suc i) xs ≡ take i xs ++ x ∷ []
take_next [] i x rest h = absurd (nothing_left i x rest h)
take_next (y ∷ ys) zero x rest h = cc
take_next (y ∷ ys) (suc i) x rest h = ap (λ l. y ∷ l) (take_next ys i x rest h)

-- a row that meets none before it
pub earlier_on : {R : Type 0} (meets : List R → R → Bool) (start i : ℕ) (all : List R) (r : R) (rest : List R) →
    r ∷ rest ≡ drop i all → meets (take i all) r ≡ false →
    first_with_earlier_from (take i all) (start + i) meets (r ∷ rest) ≡ first_with_earlier_from (take (i + 1) all) (start + (i + 1)) meets rest
earlier_on meets start i all r rest h m =
    let t : take (i + 1) all ≡ take i all ++ r ∷ [] = rw add-one (take_next all i r rest h) in
    let n : start + (i + 1) ≡ start + i + 1 = omega arith in
    rw (m, t, n) refl

pub mapped_both : {A B C D : Type 0} (h : C → D) (f : A → C) (g : B → C) (xs : List A) (ys : List B) →
    map h (map f xs ++ map g ys) ≡ map (λ a. h (f a)) xs ++ map (λ b. h (g b)) ys
mapped_both h f g [] [] = refl
mapped_both h f g [] (y ∷ ys) = ap (λ l. h (g y) ∷ l) (mapped_both h f g [] ys)
mapped_both h f g (x ∷ xs) ys = ap (λ l. h (f x) ∷ l) (mapped_both h f g xs ys)
