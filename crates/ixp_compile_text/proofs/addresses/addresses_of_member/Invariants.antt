use Rattle.std.proofs.Common.{◌≡◌, length, map}
use Rattle.ixp_registry.specs.Sessions.{ascending}
use Rattle.ixp_compile_text.specs.declared.addresses.Listed.{Listed}
use Rattle.ixp_compile_text.specs.Addresses.{onto, own_addresses}
use Rattle.ixp_compile_text.proofs.addresses.addresses_of_member.Given as goal

abbrev pub invariant-each : goal.invariant-each
invariant-each l =
    onto (own_addresses l.family l.vlan l.member l.left) (map (λ (a : Listed). a.addr) l.addresses) ≡ ascending (own_addresses l.family l.vlan l.member l.interfaces)

abbrev pub decreases-each : goal.decreases-each
decreases-each l = length l.left
