use Rattle.std.proofs.Common.{◌≡◌, ◌++◌, length}
use Rattle.ixp_lang_exprs.specs.Sets.{pairs_in}
use Rattle.ixp_lang_exprs.proofs.set.pairs_in.Given as goal

abbrev pub invariant-each : goal.invariant-each
invariant-each l = l.pairs ++ pairs_in l.left ≡ pairs_in l.tuples

abbrev pub decreases-each : goal.decreases-each
decreases-each l = length l.left
