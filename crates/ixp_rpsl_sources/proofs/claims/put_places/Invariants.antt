use Rattle.std.proofs.Common.{◌≡◌, ◌++◌, List, ℕ, length}
use Rattle.ixp_rpsl_sources.specs.Told.{place_times, places_at}
use Rattle.ixp_rpsl_sources.proofs.claims.put_places.Given as goal

abbrev pub invariant-sets : goal.invariant-sets
invariant-sets l = (q : List ℕ) → places_at l.index q ++ place_times l.fn.place l.left q ≡ places_at l.fn.index q ++ place_times l.fn.place l.fn.sets q

abbrev pub decreases-sets : goal.decreases-sets
decreases-sets l = length l.left
