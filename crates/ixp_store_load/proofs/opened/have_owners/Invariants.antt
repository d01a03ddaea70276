use Rattle.std.proofs.Common.{◌≡◌, ◌↔◌, length, true}
use Rattle.std.specs.List.{AllByRecursion}
use Rattle.ixp_registry.specs.Lookups.{has_owner}
use Rattle.ixp_store_load.proofs.opened.have_owners.Given as goal

abbrev pub invariant-each : goal.invariant-each
invariant-each l = AllByRecursion (λ k. has_owner l.members k.owner ≡ true) l.left ↔ AllByRecursion (λ k. has_owner l.members k.owner ≡ true) l.fn.kept

abbrev pub decreases-each : goal.decreases-each
decreases-each l = length l.left
