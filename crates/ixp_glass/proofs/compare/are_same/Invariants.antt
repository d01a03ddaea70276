use Rattle.std.proofs.Common.{◌≡◌, drop}
use Rattle.std.specs.Cmp.Lexicographic.{pointwise}
use Rattle.ixp_glass.proofs.compare.are_same.Given as goal

abbrev pub invariant-each : goal.invariant-each
invariant-each g l = pointwise g.T.Same.same (drop l.value-index l.one) l.left ≡ pointwise g.T.Same.same l.one l.other
