use Rattle.std.proofs.Common.{◌≡◌, ◌≤◌, ◌+◌, ◌*◌, length}
use Rattle.std.specs.List.{AllByRecursion}
use Rattle.ixp_num_tables.specs.Sums.{total}
use Rattle.ixp_registry.specs.Valid.{ValidRouter}
use Rattle.ixp_build_demo.specs.Sizes.{patterns_at}
use Rattle.ixp_build_demo.proofs.counting.all_patterns.Given as goal

abbrev pub invariant-each : goal.invariant-each
invariant-each l = record {
  sum : l.patterns + total (λ q. total (patterns_at l.registry q) l.registry.interfaces) l.left
      ≡ total (λ q. total (patterns_at l.registry q) l.registry.interfaces) l.registry.routers;
  small : l.patterns + 619200000000 * length l.left ≤ 9907200000000;
  valid : AllByRecursion ValidRouter l.left;
}

abbrev pub decreases-each : goal.decreases-each
decreases-each l = length l.left
