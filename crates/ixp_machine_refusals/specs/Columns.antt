-- The last tests of a new router, which its first ones are put before.
use Rattle.std.specs.Prelude.{[], ◌∷◌, length, not, ◌&&◌, find as first_with}
use Rattle.std.specs.Option.{is_some}
use Rattle.ixp_num.specs.Families.{same_family}
use Rattle.ixp_num_tables.specs.Tables.{find}
use Rattle.ixp_registry.specs.declared.kind.Kind.TheVariants.{Interfaces, Routers}
use Rattle.ixp_registry.specs.declared.refusal.Refusal.TheVariants.{AsnReserved, Family as OtherFamily, Outside, Taken, BadRule}
use Rattle.ixp_registry.specs.declared.refusal.RowKey.TheVariants.{Number, Handle}
use Rattle.ixp_registry.specs.declared.registry.Registry.{Registry}
use Rattle.ixp_registry.specs.declared.router.Router.{Router}
use Rattle.ixp_registry.specs.Keys.{router_key}
use Rattle.ixp_registry.specs.Lookups.{has_addr, has_blackhole, is_host_in, prefix_in}
use Rattle.ixp_registry.specs.Weight.{weight}
use Rattle.ixp_plan.specs.Checks.{router_with}
use Rattle.ixp_machine_edits.specs.Tests.{Tests, refused, taken_by, exists, full, too_heavy}
use Rattle.ixp_machine_edits.specs.Routers.{is_no_router_asn, blackhole_has_family, blackhole_is_host, holds_blackhole, is_beyond_bounds, with_router}

-- X11, X15 and X16
abbrev pub last_tests : Registry → Router → Tests
last_tests r q =
    exists (λ p. Handle p.handle) (find router_key q.handle r.routers)
    ∷ refused (is_beyond_bounds q) (BadRule 0)
    ∷ full Routers (length r.routers) 16
    ∷ too_heavy (weight r.members r.interfaces (with_router q r.routers) r.irr) ∷ []

-- X9, and then these
abbrev pub address_tests : Registry → Router → Tests
address_tests r q =
    taken_by Interfaces (λ i. Number i.number) (first_with (has_addr q.addr) r.interfaces)
    ∷ taken_by Routers (λ p. Handle p.handle) (router_with r q.addr)
    ∷ taken_by Interfaces (λ i. Number i.number) (first_with (holds_blackhole q) r.interfaces)
    ∷ taken_by Routers (λ p. Handle p.handle) (first_with (λ p. has_blackhole q p.addr) r.routers)
    ∷ refused (has_blackhole q q.addr) (Taken Routers (Handle q.handle))
    ∷ last_tests r q

-- X6 to X8, and then these: all but X4 and X5
abbrev pub placed_tests : Registry → Router → Tests
placed_tests r q =
    refused (is_no_router_asn r q.asn.0) (AsnReserved q.asn)
    ∷ refused (not (same_family q.addr.family q.family && is_some (prefix_in r.vlans q.vlan q.family)
    && blackhole_has_family q)) (OtherFamily q.family)
    ∷ refused (not (is_host_in r.vlans q.vlan q.family q.addr && blackhole_is_host r q)) (Outside q.vlan)
    ∷ address_tests r q
