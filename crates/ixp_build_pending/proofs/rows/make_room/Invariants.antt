use Rattle.std.proofs.Common.{◌≡◌, List, filter, length}
use Rattle.std.specs.List.{AllByRecursion}
use Rattle.ixp_build_pending.specs.declared.name.TextName.{TextName}
use Rattle.ixp_build_pending.specs.declared.rows.PendingText.{PendingText}
use Rattle.ixp_build_pending.specs.Rows.{HasRow, HasText, is_pending}
use Rattle.ixp_build_pending.proofs.rows.make_room.Given as goal

abbrev pub invariant-each : goal.invariant-each
invariant-each l = record {
  same : filter is_pending l.rows ≡ filter is_pending l.fn.rows;
  there : (now : List PendingText) → ((t : TextName) → HasText l.rows t → HasText now t) → AllByRecursion (HasRow now) l.left → AllByRecursion (HasRow now) l.fresh;
}

abbrev pub decreases-each : goal.decreases-each
decreases-each l = length l.left
