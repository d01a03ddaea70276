use Rattle.std.proofs.Common.{◌↔◌, length}
use Rattle.std.specs.List.{AllByRecursion}
use Rattle.ixp_store_words.specs.Keeping.{MayBeKept}
use Rattle.ixp_store_words.proofs.gathering.may_all_be_kept.Given as goal

abbrev pub invariant-each : goal.invariant-each
invariant-each l = AllByRecursion (MayBeKept l.accepted l.floor) l.left ↔ AllByRecursion (MayBeKept l.accepted l.floor) l.fn.numbers

abbrev pub decreases-each : goal.decreases-each
decreases-each l = length l.left
