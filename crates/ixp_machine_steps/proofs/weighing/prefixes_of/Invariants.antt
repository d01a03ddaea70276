use Rattle.std.proofs.Common.{◌≡◌, ◌≤◌, ◌+◌, length}
use Rattle.ixp_machine_edits.specs.Lists.{prefixes_in}
use Rattle.ixp_machine_steps.proofs.weighing.prefixes_of.Given as goal

abbrev pub invariant-each : goal.invariant-each
invariant-each l = record {
  sum : l.count + prefixes_in l.left ≡ prefixes_in l.fn.lists;
  small : l.count ≤ 4000000;
}

abbrev pub decreases-each : goal.decreases-each
decreases-each l = length l.left
