use Rattle.std.proofs.Common.{◌≡◌, ℕ, nat_eq, take}
use Rattle.std.specs.HashSet.{contains}
use Rattle.std.specs.List.{list_any}
use Rattle.ixp_rpsl.proofs.origins.marks_of.Given as goal

abbrev pub invariant-loop-origin : goal.invariant-loop-origin
invariant-loop-origin l = (q : ℕ) → contains nat_eq l.marks q ≡ list_any (λ o. nat_eq q o.0) (take l.origin-index l.origins)
