-- Texts that are written one after the other.
use Rattle.std.proofs.Common.{◌≡◌, ◌≤◌, ℕ, zero, suc, Option, List, [], ◌∷◌, ◌++◌, take, Result, Ok, Err, OnErr, refl, sym, ap, subst}
use Rattle.ixp_io.specs.Told.{Takes, TakesPart}
use Rattle.ixp_io.specs.Faults.{Rose}
use Rattle.ixp_io.proofs.Streams.{Takes-then, Rose-since}

pub takes_then : (a b c : Option (List ℕ)) (x y : List ℕ) → Takes a b x → Takes b c y → Takes a c (x ++ y)
takes_then = Takes-then

pub rose_since : (a b c : ℕ) → a ≤ b → Rose b c → Rose a c
rose_since = Rose-since

-- a first part of two texts: a first part of the one, or the one and a first part of the other
front_of : (n : ℕ) (x y : List ℕ) → (m : ℕ) × (take m (x ++ y) ≡ take n x)
front_of zero x y = (0, refl)
front_of (suc n) [] y = (0, refl)
front_of (suc n) (c ∷ x) y = (suc (front_of n x y).0, ap (λ t. c ∷ t) (front_of n x y).1)

behind_of : (n : ℕ) (x y : List ℕ) → (m : ℕ) × (take m (x ++ y) ≡ x ++ take n y)
behind_of n [] y = (n, refl)
behind_of n (c ∷ x) y = (suc (behind_of n x y).0, ap (λ t. c ∷ t) (behind_of n x y).1)

pub takes_front : (a b : Option (List ℕ)) (x y : List ℕ) → TakesPart a b x → TakesPart a b (x ++ y)
takes_front a b x y part = let more = front_of part.0 x y in (more.0, subst (Takes a b) (sym more.1) part.1)

pub takes_on : (a b c : Option (List ℕ)) (x y : List ℕ) → Takes a b x → TakesPart b c y → TakesPart a c (x ++ y)
takes_on a b c x y all part = let more = behind_of part.0 x y in (more.0, subst (Takes a c) (sym more.1) (takes_then a b c x (take part.0 y) all part.1))

-- what holds holds where a result is an Err
pub on_err : {A E : Type 0} (r : Result A E) (P : Type 0) → P → OnErr r P
on_err (Ok x) P p = tt
on_err (Err e) P p = p

pub ruleset telling = (takes_then, rose_since, takes_front, takes_on)
