use Rattle.std.proofs.Common.{length, ◌≡◌}
use Rattle.ixp_http.specs.Fields.{after}
use Rattle.ixp_http.proofs.request.query_of.Given as goal

abbrev pub invariant-loop-rest : goal.invariant-loop-rest
invariant-loop-rest l = after 63 l.rest ≡ after 63 l.target

abbrev pub decreases-loop-rest : goal.decreases-loop-rest
decreases-loop-rest l = length l.rest
