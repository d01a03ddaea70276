-- The addresses that members have in a VLAN, as the program groups them.
use Rattle.std.specs.Prelude.{◌≡◌, ℕ, List, [], ◌∷◌, ◌==◌, ◌&&◌, Option, Some, None, filter, flat_map, map}
use Rattle.std.specs.BTreeMap.{BTreeMap, get_by}
use Rattle.std.specs.Ordering.{nat_cmp}
use Rattle.ixp_num_tables.specs.Tables.{put}
use Rattle.ixp_num.specs.declared.addr.Addr.{Addr}
use Rattle.ixp_num.specs.declared.family.Family.{Family}
use Rattle.ixp_registry.specs.declared.network.Interface.{Interface}
use Rattle.ixp_registry.specs.declared.registry.Registry.{Registry}
use Rattle.ixp_registry.specs.declared.router.Router.{Router}
use Rattle.ixp_registry.specs.Sessions.{address_of, ascending, listed_address}
use Rattle.ixp_registry.specs.Words.{addr_numbers}
use Rattle.ixp_compile_text.specs.declared.addresses.Listed.{Listed}
use Rattle.ixp_compile_text.specs.declared.addresses.MemberAddresses.{MemberAddresses}

-- a member's addresses of a family in a VLAN, by number of interface
abbrev pub own_addresses : Family → ℕ → ℕ → List Interface → List Addr
own_addresses family vlan member interfaces =
    flat_map (λ i. listed_address (address_of family i))
    (filter (λ i. i.member == member && i.vlan == vlan) interfaces)

-- the addresses put in before those that are there
abbrev pub onto : List Addr → List Addr → List Addr
onto [] there = there
onto (a ∷ addrs) there = put addr_numbers a (onto addrs there)

abbrev pub listed_or_none : Option (List Listed) → List Listed
listed_or_none None = []
listed_or_none (Some listed) = listed

-- what a map has of a member
abbrev pub listed_in : BTreeMap ℕ (List Listed) → ℕ → List Listed
listed_in map member = listed_or_none (get_by (nat_cmp member) map)

abbrev pub listed_of : MemberAddresses → ℕ → List Listed
listed_of a member = listed_in a.by_member member

-- a member's addresses
abbrev pub addresses_of : MemberAddresses → ℕ → List Addr
addresses_of a member = map (λ l. l.addr) (listed_of a member)

-- the addresses are those of the router's family in its VLAN, each member's in order
abbrev pub AreInVlan : Registry → Router → MemberAddresses → Type 0
AreInVlan r router a = (m : ℕ)
    → addresses_of a m ≡ ascending (own_addresses router.family router.vlan m r.interfaces)
