use Rattle.std.proofs.Common.{◌≡◌, ◌||◌, ℕ, List, length}
use Rattle.std.specs.Option.{is_some}
use Rattle.std.specs.BTreeMap.{get_by}
use Rattle.ixp_rpsl.specs.Expansion.{has_name}
use Rattle.ixp_rpsl.specs.Lookups.{sought}
use Rattle.ixp_rpsl.proofs.origins.names_of.Given as goal

abbrev pub invariant-names : goal.invariant-names
invariant-names l = (q : List ℕ) → (is_some (get_by (sought q) l.names) || has_name l.left q) ≡ has_name l.fn.c q

abbrev pub decreases-names : goal.decreases-names
decreases-names l = length l.left
