use Rattle.std.proofs.Common.{◌≡◌, ◌+◌, ◌≤◌, ℕ, length}
use Rattle.ixp_num.specs.declared.family.Family.{Family}
use Rattle.ixp_registry.specs.Places.{first_heavy_from}
use Rattle.ixp_registry_breach.specs.Weights.{capped, weight_at}
use Rattle.ixp_registry_breach.proofs.weights.first_heavy.Given as goal

abbrev pub invariant-rows : goal.invariant-rows
invariant-rows l = record {
  room : l.at + length l.left ≡ l.fn.start + length l.fn.prefixes;
  light : l.sum ≤ 8000000;
  same : (weight : ℕ → Family → ℕ) → ((member : ℕ) (family : Family) → capped (weight_at l.weights member family) ≡ capped (weight member family)) →
      first_heavy_from l.sum (λ p. weight p.member p.prefix.family) 8000000 l.at l.left
      ≡ first_heavy_from 0 (λ p. weight p.member p.prefix.family) 8000000 l.fn.start l.fn.prefixes;
}

abbrev pub decreases-rows : goal.decreases-rows
decreases-rows l = length l.left
