use Rattle.std.proofs.Common.{◌≡◌, ◌≤◌, ◌+◌, length}
use Rattle.ixp_num_tables.specs.Sums.{total}
use Rattle.ixp_build_demo.specs.Sizes.{sessions_at}
use Rattle.ixp_build_demo.proofs.counting.router_sessions.Given as goal

abbrev pub invariant-each : goal.invariant-each
invariant-each l = record {
  sum : l.sessions + total (sessions_at l.registry l.router) l.left ≡ total (sessions_at l.registry l.router) l.registry.interfaces;
  small : l.sessions + length l.left ≤ 8000;
}

abbrev pub decreases-each : goal.decreases-each
decreases-each l = length l.left
