-- The sessions of a route server, and what members' rules say.
use Rattle.std.specs.Prelude.{ℕ, Bool, List, [], ◌∷◌, ◌&&◌, ◌==◌, not, true, false, Option, Some, None, if◌then◌else◌, filter, flat_map}
use Rattle.ixp_num_tables.specs.Tables.{find, if_there, put}
use Rattle.ixp_num.specs.AddressForms.{version_of}
use Rattle.ixp_num.specs.declared.family.Family.{Family}
use Rattle.ixp_num.specs.declared.family.Family.TheVariants.{V4, V6}
use Rattle.ixp_num.specs.declared.addr.Addr.{Addr}
use Rattle.ixp_num.specs.declared.asn.Asn.{Asn}
use Rattle.ixp_num.specs.declared.prefix.Prefix.{Prefix}
use Rattle.ixp_num.specs.Prefixes.{covers}
use Rattle.ixp_registry.specs.declared.members.Member.{Member}
use Rattle.ixp_registry.specs.declared.network.IfAddr.{IfAddr}
use Rattle.ixp_registry.specs.declared.network.Interface.{Interface}
use Rattle.ixp_registry.specs.declared.router.Router.{Router}
use Rattle.ixp_registry.specs.declared.rules.MemberRule.{MemberRule}
use Rattle.ixp_registry.specs.declared.rules.Way.{Way}
use Rattle.ixp_registry.specs.declared.rules.Way.TheVariants.{Advertise, Receive}
use Rattle.ixp_registry.specs.declared.rules.Action.{Action}
use Rattle.ixp_registry.specs.declared.rules.Action.TheVariants.{AsIs, Prepend, Stop}
use Rattle.ixp_registry.specs.declared.registry.Registry.{Registry}
use Rattle.ixp_registry.specs.Keys.{member_key, interface_key, irr_key, origins_key, rules_key}
use Rattle.ixp_registry.specs.Lookups.{is_member_connected}
use Rattle.ixp_registry.specs.Words.{addr_numbers}

-- the interface's address of a family
abbrev pub address_of : Family → Interface → Option IfAddr
address_of V4 i = i.v4
address_of V6 i = i.v6

-- an interface in the router's VLAN that has an address of its family for the route servers, of a connected
-- member
abbrev pub is_session : Registry → Router → Interface → Bool
is_session r router i =
    i.vlan == router.vlan && if_there (address_of router.family i) false (λ a. a.rs)
    && is_member_connected r.members i.member

-- the sessions of a router, by number of interface
abbrev pub sessions_of : Registry → Router → List Interface
sessions_of r router = filter (is_session r router) r.interfaces

-- a session: its interface, its address there, its member, and the member's lists of the family and rules
pub record Session : Type 0 where
  pub interface : Interface
  pub address : IfAddr
  pub member : Member
  pub prefixes : List Prefix
  pub origins : List Asn
  pub rules : List MemberRule

-- A member's addresses in a VLAN.

abbrev pub listed_address : Option IfAddr → List Addr
listed_address None = []
listed_address (Some a) = a.addr ∷ []

-- the interfaces of the session's member in its VLAN, its own included
abbrev pub is_beside : Session → Interface → Bool
is_beside s i = i.member == s.interface.member && i.vlan == s.interface.vlan

-- addresses in ascending order
abbrev pub ascending : List Addr → List Addr
ascending [] = []
ascending (a ∷ addrs) = put addr_numbers a (ascending addrs)

-- the member's addresses of the router's family in the session's VLAN
abbrev pub member_addresses : Registry → Router → Session → List Addr
member_addresses r router s =
    ascending (flat_map (λ i. listed_address (address_of router.family i))
    (filter (is_beside s) r.interfaces))

-- a member without a list counts as one whose list is empty
abbrev pub rules_of : Registry → ℕ → List MemberRule
rules_of r member = if_there (find rules_key (member ∷ []) r.rules) [] (λ l. l.rules)

abbrev pub prefixes_in : Registry → ℕ → Family → List Prefix
prefixes_in r member family =
    if_there (find irr_key (member ∷ version_of family ∷ []) r.irr) [] (λ l. l.prefixes)

abbrev pub origins_in : Registry → ℕ → Family → List Asn
origins_in r member family =
    if_there (find origins_key (member ∷ version_of family ∷ []) r.origins) [] (λ l. l.asns)

abbrev pub session_with : Registry → Router → Interface → Option IfAddr → Option Member → Option Session
session_with r router i (Some a) (Some m) = Some (record {
  interface = i;
  address = a;
  member = m;
  prefixes = prefixes_in r i.member router.family;
  origins = origins_in r i.member router.family;
  rules = rules_of r i.member;
})
session_with r router i None m = None
session_with r router i (Some a) None = None

abbrev pub session_at : Registry → Router → Interface → Option Session
session_at r router i =
    if is_session r router i then session_with r router i (address_of router.family i)
    (find member_key (i.member ∷ []) r.members) else None

-- the session of the interface with the number, where it is one of the router's
abbrev pub session : Registry → Router → ℕ → Option Session
session r router n = if_there (find interface_key (n ∷ []) r.interfaces) None (session_at r router)

-- the rule's prefix is any, or covers the net
abbrev pub is_about : MemberRule → Prefix → Bool
is_about rule net = if_there rule.prefix true (λ p. covers p net)

abbrev pub is_advertise : Way → Bool
is_advertise Advertise = true
is_advertise Receive = false

-- an advertise rule is about a receiver where its peer is any, or is the receiver's AS number and not the
-- router's own
abbrev pub is_for : ℕ → MemberRule → Prefix → ℕ → Bool
is_for rs rule net p =
    is_advertise rule.way && if_there rule.peer true (λ peer. peer.0 == p && not (peer.0 == rs))
    && is_about rule net

-- what the first such rule says of a net and a receiver's AS number
abbrev pub asked : List MemberRule → ℕ → Prefix → ℕ → Option Action
asked [] rs net p = None
asked (rule ∷ rules) rs net p = if is_for rs rule net p then Some rule.action else asked rules rs net p

abbrev pub is_stop : Action → Bool
is_stop Stop = true
is_stop AsIs = false
is_stop (Prepend n) = false

-- a receive rule is about a sender where its peer is any or the sender's AS number
abbrev pub is_from : MemberRule → Prefix → ℕ → Bool
is_from rule net sender = not (is_advertise rule.way) && if_there rule.peer true (λ peer. peer.0 == sender)
    && is_about rule net

-- false exactly where the first receive rule about the net and the sender's AS number says stop
abbrev pub receives : List MemberRule → Prefix → ℕ → Bool
receives [] net sender = true
receives (rule ∷ rules) net sender =
    if is_from rule net sender then not (is_stop rule.action) else receives rules net sender
