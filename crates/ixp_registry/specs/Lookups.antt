-- What a row says by way of the rows that it names. Look-ups are of tables, so that they serve rows and
-- registries.
use Rattle.std.specs.Prelude.{ℕ, Bool, List, [], ◌∷◌, ◌++◌, ◌+◌, ◌-◌, ◌^◌, ◌&&◌, ◌||◌, ◌==◌, not, true, false, Option, Some, None}
use Rattle.std.specs.Option.{is_some}
use Rattle.ixp_num_tables.specs.Tables.{find, if_there}
use Rattle.ixp_num.specs.declared.family.Family.{Family}
use Rattle.ixp_num.specs.declared.family.Family.TheVariants.{V4, V6}
use Rattle.ixp_num.specs.declared.addr.Addr.{Addr}
use Rattle.ixp_num.specs.declared.prefix.Prefix.{Prefix}
use Rattle.ixp_num.specs.Families.{bits_of, same_family}
use Rattle.ixp_num.specs.Prefixes.{contains, covers, same_addr}
use Rattle.ixp_registry.specs.declared.members.Member.{Member}
use Rattle.ixp_registry.specs.declared.members.Status.{Status}
use Rattle.ixp_registry.specs.declared.members.Status.TheVariants.{Noted, Connected, Suspended, Left}
use Rattle.ixp_registry.specs.declared.members.Owner.{Owner}
use Rattle.ixp_registry.specs.declared.members.Owner.TheVariants.{Staff, Member as Of}
use Rattle.ixp_registry.specs.declared.network.Switch.{Switch}
use Rattle.ixp_registry.specs.declared.network.Port.{Port}
use Rattle.ixp_registry.specs.declared.network.Vlan.{Vlan}
use Rattle.ixp_registry.specs.declared.network.IfAddr.{IfAddr}
use Rattle.ixp_registry.specs.declared.network.Interface.{Interface}
use Rattle.ixp_registry.specs.declared.network.InterfaceRow.{InterfaceRow}
use Rattle.ixp_registry.specs.declared.router.Router.{Router}
use Rattle.ixp_registry.specs.Keys.{member_key, switch_key, port_key, vlan_key, interface_row_key}

abbrev pub has_member : List Member → ℕ → Bool
has_member ms n = is_some (find member_key (n ∷ []) ms)

abbrev pub has_switch : List Switch → ℕ → Bool
has_switch ss n = is_some (find switch_key (n ∷ []) ss)

abbrev pub has_port : List Port → ℕ → Bool
has_port ps n = is_some (find port_key (n ∷ []) ps)

abbrev pub has_vlan : List Vlan → ℕ → Bool
has_vlan vs n = is_some (find vlan_key (n ∷ []) vs)

abbrev pub has_interface : List InterfaceRow → ℕ → Bool
has_interface is n = is_some (find interface_row_key (n ∷ []) is)

-- staff owners have no row
abbrev pub has_owner : List Member → Owner → Bool
has_owner ms (Staff n) = true
has_owner ms (Of n) = has_member ms n

-- the port is there and belongs to the member
abbrev pub is_port_of : List Port → ℕ → ℕ → Bool
is_port_of ps port member = if_there (find port_key (port ∷ []) ps) false (λ p. p.member == member)

abbrev pub is_left : Status → Bool
is_left Left = true
is_left Noted = false
is_left Connected = false
is_left Suspended = false

abbrev pub is_connected : Status → Bool
is_connected Connected = true
is_connected Noted = false
is_connected Suspended = false
is_connected Left = false

-- the member is there and has left
abbrev pub has_left : List Member → ℕ → Bool
has_left ms n = if_there (find member_key (n ∷ []) ms) false (λ m. is_left m.status)

-- the member is there and connected
abbrev pub is_member_connected : List Member → ℕ → Bool
is_member_connected ms n = if_there (find member_key (n ∷ []) ms) false (λ m. is_connected m.status)

-- the prefix that the VLAN has for a family
abbrev pub column : Family → Vlan → Option Prefix
column V4 v = v.v4
column V6 v = v.v6

-- both have a prefix in common: one of them covers the other
abbrev pub overlap : Prefix → Prefix → Bool
overlap p q = covers p q || covers q p

abbrev pub listed : Option Prefix → List Prefix
listed None = []
listed (Some p) = p ∷ []

abbrev pub vlan_prefixes : Vlan → List Prefix
vlan_prefixes v = listed v.v4 ++ listed v.v6

-- the address is the prefix's first one, the subnet-router anycast address of IPv6 (RFC 4291 section 2.6.1);
-- in IPv4 its last one, the broadcast address (RFC 919), counts too
abbrev pub is_edge : Prefix → Addr → Bool
is_edge p a = a.value == p.value || same_family p.family V4
    && a.value + 1 == p.value + 2 ^ (bits_of p.family - p.len)

-- an interface or a router may have the address there
abbrev pub is_host : Prefix → Addr → Bool
is_host p a = contains p a && not (is_edge p a)

-- the VLAN's prefix of a family, where both are there
abbrev pub prefix_in : List Vlan → ℕ → Family → Option Prefix
prefix_in vs vlan family = if_there (find vlan_key (vlan ∷ []) vs) None (column family)

-- the VLAN is there, has a prefix for the family, and an interface or a router may have the address in it
abbrev pub is_host_in : List Vlan → ℕ → Family → Addr → Bool
is_host_in vs vlan family a =
    if_there (find vlan_key (vlan ∷ []) vs) false (λ v. if_there (column family v) false (λ p. is_host p a))

-- the interface is there, and may have the address in its VLAN
abbrev pub is_host_at : List Vlan → List InterfaceRow → ℕ → Addr → Bool
is_host_at vs is interface a =
    if_there (find interface_row_key (interface ∷ []) is) false (λ i. is_host_in vs i.vlan a.family a)

abbrev pub is_at : Addr → Option IfAddr → Bool
is_at a x = if_there x false (λ y. same_addr y.addr a)

-- the address is one of the interface's
abbrev pub has_addr : Addr → Interface → Bool
has_addr a i = is_at a i.v4 || is_at a i.v6

-- the address is the one to which the router sends what is to be dropped
abbrev pub has_blackhole : Router → Addr → Bool
has_blackhole r a = if_there r.blackhole false (λ b. same_addr b a)
