use Rattle.std.proofs.Common.{◌≡◌, ◌≤◌, ◌+◌, length}
use Rattle.ixp_machine_edits.specs.ApiKeys.{keys_of}
use Rattle.ixp_machine_refusals.proofs.counts.keys_of.Given as goal

abbrev pub invariant-each : goal.invariant-each
invariant-each l = record {
  count : l.have + keys_of l.owner l.left ≡ keys_of l.owner l.fn.keys;
  within : l.have + length l.left ≤ length l.fn.keys;
}

abbrev pub decreases-each : goal.decreases-each
decreases-each l = length l.left
