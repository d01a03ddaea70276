use Rattle.std.proofs.Common.{◌≡◌, ◌++◌, filter, filter_map, length}
use Rattle.ixp_build_pending.specs.Rows.{part_in, is_pending}
use Rattle.ixp_build_pending.proofs.rows.PendingTexts.sessions.Given as goal

abbrev pub invariant-each : goal.invariant-each
invariant-each l = l.keys ++ filter_map part_in (filter is_pending l.left) ≡ filter_map part_in l.self

abbrev pub decreases-each : goal.decreases-each
decreases-each l = length l.left
