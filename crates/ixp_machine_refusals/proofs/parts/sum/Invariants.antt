use Rattle.std.proofs.Common.{◌≡◌, ◌≤◌, ◌+◌, ◌*◌, length}
use Rattle.ixp_machine_refusals.specs.Parts.{part_weight}
use Rattle.ixp_machine_refusals.proofs.parts.sum.Given as goal

abbrev pub invariant-each : goal.invariant-each
invariant-each l = record {
  sum : l.weight + part_weight l.registry l.change l.part l.left ≡ part_weight l.registry l.change l.part l.fn.interfaces;
  small : l.weight + 20400000 * length l.left ≤ 8000 * 20400000;
}

abbrev pub decreases-each : goal.decreases-each
decreases-each l = length l.left
