use Rattle.std.proofs.Common.{◌≡◌, ℕ, length}
use Rattle.ixp_registry.specs.Sessions.{ascending}
use Rattle.ixp_compile_text.specs.Addresses.{addresses_of, onto, own_addresses}
use Rattle.ixp_compile_text.proofs.addresses.MemberAddresses.in_vlan.Given as goal

abbrev pub invariant-each : goal.invariant-each
invariant-each l =
    (m : ℕ) → onto (own_addresses l.family l.vlan m l.left) (addresses_of l.addresses m) ≡ ascending (own_addresses l.family l.vlan m l.interfaces)

abbrev pub decreases-each : goal.decreases-each
decreases-each l = length l.left
