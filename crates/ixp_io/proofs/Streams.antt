-- Two calls of a source or a sink in a row.
use Rattle.std.proofs.Common.{◌≤◌, ◌+◌, ℕ, Option, None, Some, List, [], ◌++◌, take, drop, length, ◌-◌, append_assoc, refl, sym, arith}
use Rattle.std.proofs.lemmas.List.{append-nil}
use Rattle.ixp_io.proofs.Pieces.{from_place}
use Rattle.std.proofs.Math.Seq.{take-add}
use Rattle.ixp_io.specs.Told.{Moves, Takes}
use Rattle.ixp_io.specs.Faults.{Rose}

-- what two writes took stands in their order
pub Takes-then : (a b c : Option (List ℕ)) (x y : List ℕ) → Takes a b x → Takes b c y → Takes a c (x ++ y)
Takes-then None None None x y p q = tt
Takes-then None None (Some w) x y p q = absurd q
Takes-then None (Some v) c x y p q = absurd p
Takes-then (Some u) None c x y p q = absurd p
Takes-then (Some u) (Some v) None x y p q = absurd q
Takes-then (Some u) (Some v) (Some w) x y p q = rw (q, p, append_assoc)

-- a write of the next n bytes of a text of which the first ones are written
pub Takes-next : (a b c : Option (List ℕ)) (i n : ℕ) (bytes : List ℕ) → Takes a b (take i bytes) → Takes b c (take n (take (length bytes - i) (drop i bytes))) → Takes a c (take (i + n) bytes)
Takes-next a b c i n bytes p q = rw take-add (Takes-then a b c (take i bytes) (take n (drop i bytes)) p (rw (from_place i bytes) at q))

-- what two reads gave stands in their order
pub Moves-then : (a b c : Option (List ℕ)) (x y : List ℕ) → Moves a b x → Moves b c y → Moves a c (x ++ y)
Moves-then None None None x y p q = tt
Moves-then None None (Some w) x y p q = absurd q
Moves-then None (Some v) c x y p q = absurd p
Moves-then (Some u) None c x y p q = absurd p
Moves-then (Some u) (Some v) None x y p q = absurd q
Moves-then (Some u) (Some v) (Some w) x y p q = rw (p, q, append_assoc)

-- nothing was moved yet
pub Moves-none : (a : Option (List ℕ)) → Moves a a []
Moves-none None = tt
Moves-none (Some u) = refl

-- nothing was written yet
pub Takes-none : (a : Option (List ℕ)) → Takes a a []
Takes-none None = tt
Takes-none (Some u) = sym (append-nil u)

-- a count that rose has risen since any earlier moment
pub Rose-since : (a b c : ℕ) → a ≤ b → Rose b c → Rose a c
Rose-since a b c p q = grind arith

-- a count that rose stays risen
pub Rose-later : (a b c : ℕ) → a ≤ b → Rose a b → b ≤ c → Rose a c
Rose-later a b c p q r = grind arith
