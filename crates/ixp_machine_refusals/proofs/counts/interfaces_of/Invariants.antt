use Rattle.std.proofs.Common.{◌≡◌, ◌≤◌, ◌+◌, length}
use Rattle.ixp_machine_edits.specs.Interfaces.{interfaces_of}
use Rattle.ixp_machine_refusals.proofs.counts.interfaces_of.Given as goal

abbrev pub invariant-each : goal.invariant-each
invariant-each l = record {
  count : l.have + interfaces_of l.member l.left ≡ interfaces_of l.member l.fn.interfaces;
  within : l.have + length l.left ≤ length l.fn.interfaces;
}

abbrev pub decreases-each : goal.decreases-each
decreases-each l = length l.left
