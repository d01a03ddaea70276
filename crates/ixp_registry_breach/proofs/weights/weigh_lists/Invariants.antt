use Rattle.std.proofs.Common.{◌≡◌, ◌+◌, ℕ, length}
use Rattle.ixp_num.specs.declared.family.Family.{Family}
use Rattle.ixp_registry.specs.Rules.{row_weight, list_weight}
use Rattle.ixp_num_tables.specs.Sums.{total}
use Rattle.ixp_registry_breach.specs.Weights.{capped, weight_at}
use Rattle.ixp_registry_breach.proofs.weights.weigh_lists.Given as goal

abbrev pub invariant-addresses : goal.invariant-addresses
invariant-addresses l = (member : ℕ) (family : Family) →
    capped (weight_at l.weights member family + total (row_weight l.rows member family) l.left) ≡ capped (list_weight l.rows member family)

abbrev pub decreases-addresses : goal.decreases-addresses
decreases-addresses l = length l.left
