-- Edits of route servers: the tests of each, and what it makes of the table.
use Rattle.std.specs.Prelude.{ℕ, Bool, List, [], ◌∷◌, length, true, false, not, ◌&&◌, ◌||◌, ◌==◌, nat_le, find as first_with}
use Rattle.std.specs.List.{list_any}
use Rattle.std.specs.Option.{is_some}
use Rattle.ixp_num.specs.declared.addr.Addr.{Addr}
use Rattle.ixp_num.specs.declared.family.Family.{Family}
use Rattle.ixp_num.specs.Families.{same_family}
use Rattle.ixp_num_tables.specs.Tables.{find, put, without, if_there}
use Rattle.ixp_registry.specs.declared.kind.Kind.TheVariants.{Vlans, Interfaces, Routers}
use Rattle.ixp_registry.specs.declared.network.Interface.{Interface}
use Rattle.ixp_registry.specs.declared.refusal.Refusal.TheVariants.{BadText, AsnReserved, Family as OtherFamily, Outside, Taken, BadRule}
use Rattle.ixp_registry.specs.declared.refusal.RowKey.TheVariants.{Number, Handle}
use Rattle.ixp_registry.specs.declared.refusal.TextField.TheVariants.{Handle as HandleText}
use Rattle.ixp_registry.specs.declared.registry.Registry.{Registry}
use Rattle.ixp_registry.specs.declared.router.Router.{Router}
use Rattle.ixp_registry.specs.Alphabets.{is_handle}
use Rattle.ixp_registry.specs.Keys.{vlan_key, router_key}
use Rattle.ixp_registry.specs.Lookups.{has_addr, has_blackhole, is_host_in, prefix_in}
use Rattle.ixp_registry.specs.Weight.{weight}
use Rattle.ixp_registry.specs.Words.{has_bounds, is_reserved}
use Rattle.ixp_plan.specs.Checks.{router_with}
use Rattle.ixp_machine_edits.specs.declared.edit.RouterSettings.{RouterSettings}
use Rattle.ixp_machine_edits.specs.Tests.{Tests, refused, refused, unless_there, of_there, taken_by, exists, full, too_heavy, changed}

-- What the tests of a new router and of a changed one share.

-- X6: reserved, or a member's
abbrev pub is_no_router_asn : Registry → ℕ → Bool
is_no_router_asn r asn = is_reserved asn || list_any (λ m. m.asn.0 == asn) r.members

-- X7 and X8 of a blackhole address
abbrev pub blackhole_has_family : Router → Bool
blackhole_has_family q = if_there q.blackhole true (λ b. same_family b.family q.family)

abbrev pub blackhole_is_host : Registry → Router → Bool
blackhole_is_host r q = if_there q.blackhole true (λ b. is_host_in r.vlans q.vlan q.family b)

-- X9 of a blackhole address: the interface has it
abbrev pub holds_blackhole : Router → Interface → Bool
holds_blackhole q i = if_there q.blackhole false (λ b. has_addr b i)

-- X15: bounds beyond the family's lengths, too many communities, or a blackhole address for AS 65535, whose
-- communities are the well-known ones (RFC 1997)
abbrev pub is_beyond_bounds : Router → Bool
is_beyond_bounds q = not (has_bounds q && nat_le q.max_comms 1000
    && not (is_some q.blackhole && q.asn.0 == 65535))

-- AddRouter
abbrev pub new_router : List ℕ → ℕ → Family → Addr → RouterSettings → Router
new_router handle vlan family address s = record {
  handle = handle;
  vlan = vlan;
  family = family;
  addr = address;
  asn = s.asn;
  id = s.id;
  low = s.low;
  high = s.high;
  rpki = s.rpki;
  blackhole = s.blackhole;
  max_comms = s.max_comms;
}

abbrev pub with_router : Router → List Router → List Router
with_router q qs = put router_key q qs

abbrev pub add_router_tests : Registry → Router → Tests
add_router_tests r q =
    unless_there (find vlan_key (q.vlan ∷ []) r.vlans) Vlans (Number q.vlan)
    ∷ refused (not (is_handle q.handle)) (BadText HandleText)
    ∷ refused (is_no_router_asn r q.asn.0) (AsnReserved q.asn)
    ∷ refused (not (same_family q.addr.family q.family && is_some (prefix_in r.vlans q.vlan q.family)
    && blackhole_has_family q)) (OtherFamily q.family)
    ∷ refused (not (is_host_in r.vlans q.vlan q.family q.addr && blackhole_is_host r q)) (Outside q.vlan)
    ∷ taken_by Interfaces (λ i. Number i.number) (first_with (has_addr q.addr) r.interfaces)
    ∷ taken_by Routers (λ p. Handle p.handle) (router_with r q.addr)
    ∷ taken_by Interfaces (λ i. Number i.number) (first_with (holds_blackhole q) r.interfaces)
    ∷ taken_by Routers (λ p. Handle p.handle) (first_with (λ p. has_blackhole q p.addr) r.routers)
    ∷ refused (has_blackhole q q.addr) (Taken Routers (Handle q.handle))
    ∷ exists (λ p. Handle p.handle) (find router_key q.handle r.routers)
    ∷ refused (is_beyond_bounds q) (BadRule 0)
    ∷ full Routers (length r.routers) 16
    ∷ too_heavy (weight r.members r.interfaces (with_router q r.routers) r.irr) ∷ []

-- SetRouter
abbrev pub with_settings : RouterSettings → Router → Router
with_settings s q =
    record q { asn = s.asn; id = s.id; low = s.low; high = s.high; rpki = s.rpki; blackhole = s.blackhole; max_comms = s.max_comms }

abbrev pub set_routers : List ℕ → RouterSettings → List Router → List Router
set_routers handle s qs = changed router_key handle (with_settings s) qs

-- Of the router with its new settings. Its own address, which stays, counts among those that its blackhole
-- address may not be.
abbrev pub settings_tests : Registry → List Router → Router → Tests
settings_tests r after q =
    refused (is_no_router_asn r q.asn.0) (AsnReserved q.asn)
    ∷ refused (not (blackhole_has_family q)) (OtherFamily q.family)
    ∷ refused (not (blackhole_is_host r q)) (Outside q.vlan)
    ∷ taken_by Interfaces (λ i. Number i.number) (first_with (holds_blackhole q) r.interfaces)
    ∷ taken_by Routers (λ p. Handle p.handle) (first_with (λ p. has_blackhole q p.addr) r.routers)
    ∷ refused (is_beyond_bounds q) (BadRule 0)
    ∷ too_heavy (weight r.members r.interfaces after r.irr) ∷ []

abbrev pub set_router_tests : Registry → List ℕ → RouterSettings → Tests
set_router_tests r handle s =
    of_there (find router_key handle r.routers) Routers (Handle handle)
    (λ q. settings_tests r (set_routers handle s r.routers) (with_settings s q))

-- DropRouter
abbrev pub without_router : List ℕ → List Router → List Router
without_router handle qs = without router_key handle qs

abbrev pub drop_router_tests : Registry → List ℕ → Tests
drop_router_tests r handle = unless_there (find router_key handle r.routers) Routers (Handle handle) ∷ []
