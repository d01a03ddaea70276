-- Seats that are numbered one after the other.
use Rattle.std.proofs.Common.{◌≡◌, ℕ, ◌+◌, List, [], ◌∷◌, ◌++◌, length, All, refl, ap, ◌∙◌, arith}
use Rattle.std.proofs.lemmas.List.Elements.{All-cons, All-head, All-nil, All-tail}
use Rattle.ixp_desk_lock.specs.Facts.{Log}
use Rattle.ixp_desk_lock.specs.Sights.{Sight}
use Rattle.ixp_desk.specs.Openings.{AreSeats}

pub seated : (n : ℕ) (log : Log) (ss : List Sight) (s : Sight) → AreSeats n log ss → s.0 ≡ n + length ss → s.1 ≡ 0 → s.2 ≡ log → AreSeats n log (ss ++ s ∷ [])
seated n log [] s all is zero seen = (omega (arith, is), zero, seen, tt)
seated n log (t ∷ ss) s all is zero seen = (all.0, all.1, all.2, seated (n + 1) log ss s all.3 (omega (arith, is)) zero seen)

module _ {X : Type 0} where
  pub longer : (xs : List X) (x : X) → length (xs ++ x ∷ []) ≡ length xs + 1
  longer [] x = refl
  longer (y ∷ ys) x = let more : length (ys ++ x ∷ []) ≡ length ys + 1 = longer ys x in omega (arith, more)

  -- what holds of all holds of the last and of those before it
  pub fronts : (P : X → Type 0) (xs : List X) (x : X) → All P (xs ++ x ∷ []) → All P xs
  fronts P [] x all = All-nil P
  fronts P (y ∷ ys) x all = All-cons P y ys (All-head P y (ys ++ x ∷ []) all) (fronts P ys x (All-tail P y (ys ++ x ∷ []) all))

  pub lasts : (P : X → Type 0) (xs : List X) (x : X) → All P (xs ++ x ∷ []) → P x
  lasts P [] x all = All-head P x [] all
  lasts P (y ∷ ys) x all = lasts P ys x (All-tail P y (ys ++ x ∷ []) all)
