use Rattle.std.proofs.Common.{◌≡◌, ◌≤◌, ◌+◌, ◌*◌, length}
use Rattle.ixp_registry.specs.Weight.{vlan_weight}
use Rattle.ixp_registry.proofs.weights.vlan_weight.Given as goal

abbrev pub invariant-routers : goal.invariant-routers
invariant-routers l = record {
  sum : l.weight + vlan_weight l.left l.vlan l.family ≡ vlan_weight l.fn.routers l.vlan l.family;
  small : l.weight + 2 * length l.left ≤ 2 * length l.fn.routers;
}

abbrev pub decreases-routers : goal.decreases-routers
decreases-routers l = length l.left
