use Rattle.std.proofs.Common.{◌≡◌, ◌==◌, ◌+◌, not, None, length}
use Rattle.ixp_registry.specs.Places.{first_beside_from}
use Rattle.ixp_registry.specs.Rules.{place_after}
use Rattle.ixp_registry_breach.proofs.steering.first_misplaced.Given as goal

abbrev pub invariant-rules : goal.invariant-rules
invariant-rules l = record {
  room : l.at + length l.left ≡ l.fn.start + length l.fn.rules;
  same : first_beside_from l.last l.at (λ last r. not (r.place == place_after last r.member)) l.left
      ≡ first_beside_from None l.fn.start (λ last r. not (r.place == place_after last r.member)) l.fn.rules;
}

abbrev pub decreases-rules : goal.decreases-rules
decreases-rules l = length l.left
