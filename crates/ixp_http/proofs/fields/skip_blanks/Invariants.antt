use Rattle.std.proofs.Common.{length, ◌≡◌}
use Rattle.ixp_http.specs.Fields as spec
use Rattle.ixp_http.proofs.fields.skip_blanks.Given as goal

abbrev pub invariant-loop-rest : goal.invariant-loop-rest
invariant-loop-rest l = spec.skip_blanks l.rest ≡ spec.skip_blanks l.fn.bytes

abbrev pub decreases-loop-rest : goal.decreases-loop-rest
decreases-loop-rest l = length l.rest
