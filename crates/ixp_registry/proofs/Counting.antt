-- How often keys stand.
use Rattle.std.proofs.Common.{◌≡◌, ℕ, ◌+◌, ◌==◌, List, [], ◌∷◌, Bool, true, false, ◌&&◌, cond, Option, Some, refl, sym, ◌∙◌, arith, nat_le, ◌<◌}
use Rattle.std.specs.Option.{unwrap_or}
use Rattle.std.proofs.lemmas.Bool.{eqb-true}
use Rattle.ixp_registry.specs.Places.{times, first_beyond_from}
use Rattle.ixp_num_tables.specs.Tables.{same}

pub and_left : (a b : Bool) → (a && b) ≡ true → a ≡ true
and_left true b h = refl
and_left false b h = h

pub and_right : (a b : Bool) → (a && b) ≡ true → b ≡ true
and_right true b h = h
and_right false b h = absurd cc

pub same_equal : (xs ys : List ℕ) → same xs ys ≡ true → xs ≡ ys
same_equal [] [] h = refl
same_equal [] (y ∷ ys) h = absurd cc
same_equal (x ∷ xs) [] h = absurd cc
same_equal (x ∷ xs) (y ∷ ys) h =
    let p : x ≡ y = eqb-true x y (and_left (x == y) (same xs ys) h) in
    let q : xs ≡ ys = same_equal xs ys (and_right (x == y) (same xs ys) h) in
    cc

eq_swaps : (a b : ℕ) → (a == b) ≡ (b == a)
eq_swaps a b = grind arith

pub same_swaps : (xs ys : List ℕ) → same xs ys ≡ same ys xs
same_swaps [] [] = refl
same_swaps [] (y ∷ ys) = refl
same_swaps (x ∷ xs) [] = refl
same_swaps (x ∷ xs) (y ∷ ys) = rw (eq_swaps x y, same_swaps xs ys) refl

-- one more key: the count of each key, by a map that has one more there
pub counted : (k q : List ℕ) (earlier : List (List ℕ)) (count : ℕ) (told : Bool) (old new : Option ℕ) →
    told ≡ same k q → new ≡ cond told (Some (count + 1)) old → count ≡ times k earlier → unwrap_or old 0 ≡ times q earlier →
    unwrap_or new 0 ≡ times q (k ∷ earlier)
counted k q earlier count true old new t n c o =
    let e : k ≡ q = same_equal k q (sym t) in
    let s : same q k ≡ true = same_swaps q k ∙ sym t in
    rw (n, s) (grind (arith, c, e))
counted k q earlier count false old new t n c o =
    let s : same q k ≡ false = same_swaps q k ∙ sym t in
    rw (n, s) o

not_le : (a b : ℕ) → b < a → nat_le a b ≡ false
not_le a b h = grind arith

-- the key doesn't stand too often
pub beyond_on : (earlier : List (List ℕ)) (most at : ℕ) (k : List ℕ) (ks : List (List ℕ)) → times k earlier < most →
    first_beyond_from earlier most at (k ∷ ks) ≡ first_beyond_from (k ∷ earlier) most (at + 1) ks
beyond_on earlier most at k ks h = rw (not_le most (times k earlier) h) refl
