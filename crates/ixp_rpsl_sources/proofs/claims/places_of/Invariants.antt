use Rattle.std.proofs.Common.{◌≡◌, ◌≤◌, ◌+◌, ◌++◌, List, ℕ, length}
use Rattle.ixp_rpsl_sources.specs.Told.{places_at, places_from}
use Rattle.ixp_rpsl_sources.proofs.claims.places_of.Given as goal

abbrev pub invariant-claims : goal.invariant-claims
invariant-claims l = record {
  so_far : (q : List ℕ) → places_at l.index q ++ places_from l.place l.left q ≡ places_from 0 l.fn.claims q;
  room : l.place + length l.left ≤ length l.fn.claims;
}

abbrev pub decreases-claims : goal.decreases-claims
decreases-claims l = length l.left
