-- The member export of an exchange, as a JSON tree: IX-F Member Export 1.0, of which it has the keys below.
-- Names stand in ascending order of bytes, lists in the order of the rows' numbers.
use Rattle.std.specs.Prelude.{ℕ, List, [], ◌∷◌, ◌==◌, Option, Some, None, if◌then◌else◌, codes, filter}
use Rattle.serde_json.specs.Data.{Data, boolean, number, unsigned, string, array, object, Items, no_items, item, Members, no_members, member}
use Rattle.ixp_num.specs.declared.prefix.Prefix.{Prefix}
use Rattle.ixp_num.specs.Printing.{value_text, addr_text}
use Rattle.ixp_registry.specs.declared.members.Member.{Member}
use Rattle.ixp_registry.specs.declared.network.Switch.{Switch}
use Rattle.ixp_registry.specs.declared.network.Port.{Port}
use Rattle.ixp_registry.specs.declared.network.Vlan.{Vlan}
use Rattle.ixp_registry.specs.declared.network.IfAddr.{IfAddr}
use Rattle.ixp_registry.specs.declared.network.Interface.{Interface}
use Rattle.ixp_registry.specs.declared.registry.Registry.{Registry}
use Rattle.ixp_registry.specs.Lookups.{is_connected}
use Rattle.ixp_ixf.specs.Moments.{moment_text}

abbrev pub natural : ℕ → Data
natural n = number (unsigned n)

abbrev pub items_of : {A : Type 0} → (A → Data) → List A → Items
items_of tree [] = no_items
items_of tree (x ∷ xs) = item (tree x) (items_of tree xs)

abbrev pub list_of : {A : Type 0} → (A → Data) → List A → Data
list_of tree xs = array (items_of tree xs)

-- a member of an object that is there only where its value is
abbrev pub if_any : {A : Type 0} → List ℕ → (A → Data) → Option A → Members → Members
if_any name tree None rest = rest
if_any name tree (Some x) rest = member name (tree x) rest

-- a network of a VLAN: its address and its length
abbrev pub network_tree : Prefix → Data
network_tree p = object
    (member (codes "mask_length") (natural p.len)
    (member (codes "prefix") (string (value_text p.family p.value)) no_members))

abbrev pub vlan_tree : Vlan → Data
vlan_tree v = object
    (member (codes "id") (natural v.number)
    (if_any (codes "ipv4") network_tree v.v4
    (if_any (codes "ipv6") network_tree v.v6
    (member (codes "name") (string v.name) no_members))))

abbrev pub switch_tree : Switch → Data
switch_tree s = object
    (member (codes "id") (natural s.number)
    (member (codes "name") (string s.name) no_members))

abbrev pub exchange_tree : Registry → Data
exchange_tree r = object
    (member (codes "ixf_id") (natural r.site.ixf_id)
    (member (codes "ixp_id") (natural r.site.ixp_id)
    (member (codes "shortname") (string r.site.shortname)
    (member (codes "switch") (list_of switch_tree r.switches)
    (member (codes "vlan") (list_of vlan_tree r.vlans) no_members)))))

-- a text that isn't empty, a number that isn't 0
abbrev pub some_text : List ℕ → Option (List ℕ)
some_text [] = None
some_text (c ∷ cs) = Some (c ∷ cs)

abbrev pub some_number : ℕ → Option ℕ
some_number n = if n == 0 then None else Some n

-- an address of an interface, with the AS-SET of its member
abbrev pub address_tree : List ℕ → IfAddr → Data
address_tree as_macro a = object
    (member (codes "address") (string (addr_text a.addr))
    (if_any (codes "as_macro") string (some_text as_macro)
    (if_any (codes "max_prefix") natural (some_number a.max_prefix)
    (member (codes "routeserver") (boolean a.rs) no_members))))

abbrev pub interface_tree : List ℕ → Interface → Data
interface_tree as_macro i = object
    (if_any (codes "ipv4") (address_tree as_macro) i.v4
    (if_any (codes "ipv6") (address_tree as_macro) i.v6
    (member (codes "vlan_id") (natural i.vlan) no_members)))

abbrev pub port_tree : Port → Data
port_tree p = object
    (member (codes "if_speed") (natural p.speed)
    (member (codes "switch_id") (natural p.switch) no_members))

-- the interfaces on a port
abbrev pub interfaces_on : Registry → Port → List Interface
interfaces_on r p = filter (λ i. i.port == p.number) r.interfaces

-- a port of a member, as the connection of the member by it
abbrev pub connection_tree : Registry → Member → Port → Data
connection_tree r m p = object
    (member (codes "if_list") (list_of port_tree (p ∷ []))
    (member (codes "ixp_id") (natural r.site.ixp_id)
    (member (codes "vlan_list") (list_of (interface_tree m.as_macro) (interfaces_on r p)) no_members)))

abbrev pub ports_of : Registry → Member → List Port
ports_of r m = filter (λ p. p.member == m.number) r.ports

abbrev pub member_tree : Registry → Member → Data
member_tree r m = object
    (member (codes "asnum") (natural m.asn.0)
    (member (codes "connection_list") (list_of (connection_tree r m) (ports_of r m))
    (member (codes "name") (string m.name) no_members)))

-- a member that isn't connected, or no more, is none of the export
abbrev pub connected_members : Registry → List Member
connected_members r = filter (λ m. is_connected m.status) r.members

abbrev pub members_tree : Registry → Data
members_tree r = list_of (member_tree r) (connected_members r)

-- the export at a second that is counted from 1 January 1970
abbrev pub export : Registry → ℕ → Data
export r second = object
    (member (codes "ixp_list") (list_of exchange_tree (r ∷ []))
    (member (codes "member_list") (members_tree r)
    (member (codes "timestamp") (string (moment_text second))
    (member (codes "version") (string (codes "1.0")) no_members))))
