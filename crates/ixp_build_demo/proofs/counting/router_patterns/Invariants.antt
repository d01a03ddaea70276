use Rattle.std.proofs.Common.{◌≡◌, ◌≤◌, ◌+◌, ◌*◌, length}
use Rattle.ixp_num_tables.specs.Sums.{total}
use Rattle.ixp_build_demo.specs.Sizes.{patterns_at}
use Rattle.ixp_build_demo.proofs.counting.router_patterns.Given as goal

abbrev pub invariant-each : goal.invariant-each
invariant-each l = record {
  sum : l.patterns + total (patterns_at l.registry l.router) l.left ≡ total (patterns_at l.registry l.router) l.registry.interfaces;
  small : l.patterns + 77400000 * length l.left ≤ 619200000000;
}

abbrev pub decreases-each : goal.decreases-each
decreases-each l = length l.left
