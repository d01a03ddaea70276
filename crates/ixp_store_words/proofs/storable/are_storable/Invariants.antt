use Rattle.std.proofs.Common.{◌↔◌, length}
use Rattle.ixp_store_words.specs.Storing.{AreStorable}
use Rattle.ixp_store_words.proofs.storable.are_storable.Given as goal

abbrev pub invariant-each : goal.invariant-each
invariant-each l = AreStorable l.left ↔ AreStorable l.fn.kept

abbrev pub decreases-each : goal.decreases-each
decreases-each l = length l.left
