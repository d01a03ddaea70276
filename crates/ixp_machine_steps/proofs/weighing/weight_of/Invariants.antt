use Rattle.std.proofs.Common.{◌≡◌, ◌≤◌, ◌+◌, length}
use Rattle.ixp_num_tables.specs.Sums.{total}
use Rattle.ixp_registry.specs.Weight.{interface_weight}
use Rattle.ixp_registry.specs.Weight.{weight_of}
use Rattle.ixp_machine_steps.proofs.weighing.weight_of.Given as goal

abbrev pub invariant-each : goal.invariant-each
invariant-each l = record {
  sum : l.weight + total (interface_weight l.registry.members l.registry.routers l.registry.irr) l.left ≡ weight_of l.registry;
  small : l.weight ≤ 8000000;
}

abbrev pub decreases-each : goal.decreases-each
decreases-each l = length l.left
