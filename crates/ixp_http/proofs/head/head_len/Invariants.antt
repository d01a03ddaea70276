use Rattle.std.proofs.Common.{length, drop, ◌-◌, ◌≡◌, ◌≤◌}
use Rattle.ixp_http.specs.Heads as spec
use Rattle.ixp_http.proofs.Starts.{onward}
use Rattle.ixp_http.proofs.head.head_len.Given as goal

abbrev pub invariant-loop-at : goal.invariant-loop-at
invariant-loop-at l = record {
  within : l.at ≤ length l.bytes;
  is : spec.head_len l.bytes ≡ onward l.at (spec.head_len (drop l.at l.bytes));
}

abbrev pub decreases-loop-at : goal.decreases-loop-at
decreases-loop-at l = length l.bytes - l.at
