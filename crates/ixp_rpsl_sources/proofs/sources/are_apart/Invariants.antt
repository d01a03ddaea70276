use Rattle.std.proofs.Common.{◌≡◌, length}
use Rattle.ixp_rpsl_sources.specs.Sources.{are_apart}
use Rattle.ixp_rpsl_sources.proofs.sources.are_apart.Given as goal

abbrev pub invariant-names : goal.invariant-names
invariant-names l = are_apart l.left ≡ are_apart l.fn.names

abbrev pub decreases-names : goal.decreases-names
decreases-names l = length l.left
