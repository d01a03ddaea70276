use Rattle.std.proofs.Common.{◌≡◌, ◌||◌, ℕ, List, length}
use Rattle.std.specs.Option.{is_some}
use Rattle.std.specs.BTreeMap.{get_by}
use Rattle.ixp_rpsl.specs.Expansion.{is_among}
use Rattle.ixp_rpsl.specs.Lookups.{sought}
use Rattle.ixp_rpsl_sources.proofs.claims.words_of.Given as goal

abbrev pub invariant-words : goal.invariant-words
invariant-words l = (q : List ℕ) → (is_some (get_by (sought q) l.marks) || is_among l.left q) ≡ is_among l.fn.words q

abbrev pub decreases-words : goal.decreases-words
decreases-words l = length l.left
