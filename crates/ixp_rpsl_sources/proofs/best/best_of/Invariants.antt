use Rattle.std.proofs.Common.{◌≡◌, ℕ, List, None, length}
use Rattle.std.specs.BTreeMap.{get_by}
use Rattle.ixp_rpsl.specs.Lookups.{sought}
use Rattle.ixp_rpsl_sources.specs.Told.{kept_onto}
use Rattle.ixp_rpsl_sources.proofs.best.best_of.Given as goal

abbrev pub invariant-sets : goal.invariant-sets
invariant-sets l = (q : List ℕ) → kept_onto l.fn.sources l.left (get_by (sought q) l.index) q ≡ kept_onto l.fn.sources l.fn.sets None q

abbrev pub decreases-sets : goal.decreases-sets
decreases-sets l = length l.left
