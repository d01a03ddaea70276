use Rattle.std.proofs.Common.{◌≡◌, ◌++◌, length}
use Rattle.ixp_rpsl_sources.specs.Counting.{rows}
use Rattle.ixp_rpsl_sources.specs.Said.{Said}
use Rattle.ixp_rpsl_sources.proofs.counting.rows_of.Given as goal

abbrev pub invariant-sets : goal.invariant-sets
invariant-sets l = (said : Said) → said.sets ≡ l.fn.sets.items → said.claims ≡ l.fn.claims → l.rows ++ rows l.fn.sources said l.left.items ≡ rows l.fn.sources said l.fn.sets.items

abbrev pub decreases-sets : goal.decreases-sets
decreases-sets l = length l.left.items
