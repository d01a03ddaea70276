use Rattle.std.proofs.Common.{◌↔◌, length}
use Rattle.std.specs.List.{AllByRecursion}
use Rattle.ixp_store_words.specs.Storing.{HasSubject}
use Rattle.ixp_store_words.proofs.storable.have_subjects.Given as goal

abbrev pub invariant-each : goal.invariant-each
invariant-each l = AllByRecursion HasSubject l.left ↔ AllByRecursion HasSubject l.fn.numbers

abbrev pub decreases-each : goal.decreases-each
decreases-each l = length l.left
