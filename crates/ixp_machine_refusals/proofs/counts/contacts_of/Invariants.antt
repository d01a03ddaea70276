use Rattle.std.proofs.Common.{◌≡◌, ◌≤◌, ◌+◌, length}
use Rattle.ixp_machine_edits.specs.Members.{contacts_of}
use Rattle.ixp_machine_refusals.proofs.counts.contacts_of.Given as goal

abbrev pub invariant-each : goal.invariant-each
invariant-each l = record {
  count : l.have + contacts_of l.member l.left ≡ contacts_of l.member l.fn.contacts;
  within : l.have + length l.left ≤ length l.fn.contacts;
}

abbrev pub decreases-each : goal.decreases-each
decreases-each l = length l.left
