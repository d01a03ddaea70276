use Rattle.std.proofs.Common.{length, ◌≡◌, ◌+◌}
use Rattle.ixp_http.specs.Heads as spec
use Rattle.ixp_http.proofs.head.blank_len.Given as goal

abbrev pub invariant-loop-rest : goal.invariant-loop-rest
invariant-loop-rest l = record {
  size : l.count + length l.rest ≡ length l.bytes;
  is : l.count + spec.blank_len l.rest ≡ spec.blank_len l.bytes;
}

abbrev pub decreases-loop-rest : goal.decreases-loop-rest
decreases-loop-rest l = length l.rest
