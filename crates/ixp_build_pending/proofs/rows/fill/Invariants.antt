use Rattle.std.proofs.Common.{◌≡◌, length}
use Rattle.std.specs.List.{AllByRecursion}
use Rattle.ixp_build_pending.specs.Rows.{HasRow, all_put}
use Rattle.ixp_build_pending.proofs.rows.fill.Given as goal

abbrev pub invariant-each : goal.invariant-each
invariant-each l = record {
  puts : all_put l.left.rest.items l.rows ≡ all_put l.fn.fresh.items l.fn.rows;
  there : AllByRecursion (HasRow l.rows) l.left.rest.items;
}

abbrev pub decreases-each : goal.decreases-each
decreases-each l = length l.left.rest.items
