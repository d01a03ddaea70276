use Rattle.std.proofs.Common.{◌≡◌, ◌++◌, length}
use Rattle.ixp_rpsl_sources.specs.Parts.{in_values}
use Rattle.ixp_rpsl_sources.proofs.parts.listed.Given as goal

abbrev pub invariant-values : goal.invariant-values
invariant-values g l = l.list ++ in_values g.S.Says.says l.left ≡ in_values g.S.Says.says l.fn.values

abbrev pub decreases-values : goal.decreases-values
decreases-values g l = length l.left
