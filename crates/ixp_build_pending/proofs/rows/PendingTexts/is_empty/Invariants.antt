use Rattle.std.proofs.Common.{◌≡◌, filter, length}
use Rattle.ixp_build_pending.specs.Rows.{is_pending}
use Rattle.ixp_build_pending.proofs.rows.PendingTexts.is_empty.Given as goal

abbrev pub invariant-each : goal.invariant-each
invariant-each l = filter is_pending l.left ≡ l.self

abbrev pub decreases-each : goal.decreases-each
decreases-each l = length l.left
