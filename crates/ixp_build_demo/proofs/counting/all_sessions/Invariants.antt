use Rattle.std.proofs.Common.{◌≡◌, ◌≤◌, ◌+◌, ◌*◌, length}
use Rattle.ixp_num_tables.specs.Sums.{total}
use Rattle.ixp_build_demo.specs.Sizes.{sessions_at}
use Rattle.ixp_build_demo.proofs.counting.all_sessions.Given as goal

abbrev pub invariant-each : goal.invariant-each
invariant-each l = record {
  sum : l.sessions + total (λ q. total (sessions_at l.registry q) l.registry.interfaces) l.left
      ≡ total (λ q. total (sessions_at l.registry q) l.registry.interfaces) l.registry.routers;
  small : l.sessions + 8000 * length l.left ≤ 128000;
}

abbrev pub decreases-each : goal.decreases-each
decreases-each l = length l.left
