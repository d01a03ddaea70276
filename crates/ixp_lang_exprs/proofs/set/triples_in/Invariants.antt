use Rattle.std.proofs.Common.{◌≡◌, ◌++◌, length}
use Rattle.ixp_lang_exprs.specs.Sets.{triples_in}
use Rattle.ixp_lang_exprs.proofs.set.triples_in.Given as goal

abbrev pub invariant-each : goal.invariant-each
invariant-each l = l.triples ++ triples_in l.left ≡ triples_in l.tuples

abbrev pub decreases-each : goal.decreases-each
decreases-each l = length l.left
