use Rattle.std.proofs.Common.{length, ◌≡◌}
use Rattle.ixp_http.specs.Fields as spec
use Rattle.ixp_http.proofs.fields.alike.Given as goal

abbrev pub invariant-loop-text : goal.invariant-loop-text
invariant-loop-text l = spec.alike l.text l.other ≡ spec.alike l.fn.text l.fn.other

abbrev pub decreases-loop-text : goal.decreases-loop-text
decreases-loop-text l = length l.text
