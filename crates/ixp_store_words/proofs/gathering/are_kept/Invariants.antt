use Rattle.std.proofs.Common.{◌↔◌, length}
use Rattle.ixp_store_words.specs.Keeping.{AreKept}
use Rattle.ixp_store_words.proofs.gathering.are_kept.Given as goal

abbrev pub invariant-each : goal.invariant-each
invariant-each l = AreKept l.accepted l.left ↔ AreKept l.accepted l.fn.kept

abbrev pub decreases-each : goal.decreases-each
decreases-each l = length l.left
