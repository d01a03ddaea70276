-- How far a change reaches: to which sessions, to which headers, and whether to the ROAs.
use Rattle.std.specs.Prelude.{ℕ, ◌==◌, ◌&&◌, Bool, true, false, List, [], ◌∷◌, Option, Some, None, if◌then◌else◌}
use Rattle.ixp_num.specs.declared.asn.Asn.{Asn}
use Rattle.ixp_num.specs.declared.family.Family.{Family}
use Rattle.ixp_num.specs.Families.{same_family}
use Rattle.ixp_num_tables.specs.Tables.{find, same}
use Rattle.ixp_registry.specs.declared.lists.IrrList.{IrrList}
use Rattle.ixp_registry.specs.declared.lists.OriginList.{OriginList}
use Rattle.ixp_registry.specs.declared.members.Member.{Member}
use Rattle.ixp_registry.specs.declared.network.Interface.{Interface}
use Rattle.ixp_registry.specs.declared.registry.Registry.{Registry}
use Rattle.ixp_registry.specs.declared.router.Router.{Router}
use Rattle.ixp_registry.specs.declared.rules.RuleList.{RuleList}
use Rattle.ixp_registry.specs.Keys.{member_key, interface_key}
use Rattle.ixp_registry.specs.Lookups.{is_connected}
use Rattle.ixp_registry_change.specs.declared.change.PublicList.{PublicList}
use Rattle.ixp_registry_change.specs.declared.change.PublicList.TheVariants.{Bogons, BogonAs, Transit, Roas}
use Rattle.ixp_registry_change.specs.declared.change.TableChange.{TableChange}
use Rattle.ixp_registry_change.specs.declared.change.TableChange.TheVariants.{Keep, Put, Take}
use Rattle.ixp_registry_change.specs.declared.change.RegistryChange.{RegistryChange}
use Rattle.ixp_registry_change.specs.declared.change.RegistryChange.TheVariants as of
use Rattle.ixp_build_touches.specs.declared.reach.Reach.{Reach}
use Rattle.ixp_build_touches.specs.declared.reach.Reach.TheVariants.{Nowhere, OfMember, InVlan, OfFamily, OfRouter, Everywhere}

-- which sessions these are, by their router and their interface
abbrev pub takes_in : Reach → Router → Interface → Bool
takes_in Nowhere q i = false
takes_in (OfMember member) q i = member == i.member
takes_in (InVlan member vlan) q i = member == i.member && vlan == i.vlan
takes_in (OfFamily member family) q i = member == i.member && same_family family q.family
takes_in (OfRouter handle) q i = same handle q.handle
takes_in Everywhere q i = true

-- whether a session of some router at the interface may be one of them
abbrev pub may_take_in : Reach → Interface → Bool
may_take_in Nowhere i = false
may_take_in (OfMember member) i = member == i.member
may_take_in (InVlan member vlan) i = member == i.member && vlan == i.vlan
may_take_in (OfFamily member family) i = member == i.member
may_take_in (OfRouter handle) i = true
may_take_in Everywhere i = true

-- The AS number of a member that is connected: all that a session's part takes of a member's row.
abbrev pub peer : Option Member → Option Asn
peer None = None
peer (Some m) = if is_connected m.status then Some m.asn else None

abbrev pub same_peer : Option Asn → Option Asn → Bool
same_peer None None = true
same_peer None (Some b) = false
same_peer (Some a) None = false
same_peer (Some a) (Some b) = a.0 == b.0

-- a member's row, and the one that it replaces: its name and its macro stand in no text
abbrev pub reach_of_member : Option Member → Member → Reach
reach_of_member old m = if same_peer (peer old) (peer (Some m)) then Nowhere else OfMember m.number

-- the sessions of the interface's member in its VLAN
abbrev pub beside : Option Interface → Reach
beside None = Nowhere
beside (Some i) = InVlan i.member i.vlan

-- an interface's row, and the one that it replaces. No edit moves an interface; one that moved would reach
-- all.
abbrev pub reach_of_interface : Option Interface → Interface → Reach
reach_of_interface None j = InVlan j.member j.vlan
reach_of_interface (Some i) j =
    if i.member == j.member && i.vlan == j.vlan then InVlan j.member j.vlan else Everywhere

-- Each table's changes.

abbrev pub reach_in_members : List Member → TableChange Member ℕ → Reach
reach_in_members ms Keep = Nowhere
reach_in_members ms (Put m) = reach_of_member (find member_key (m.number ∷ []) ms) m
reach_in_members ms (Take n) = OfMember n

abbrev pub reach_in_interfaces : List Interface → TableChange Interface ℕ → Reach
reach_in_interfaces is Keep = Nowhere
reach_in_interfaces is (Put j) = reach_of_interface (find interface_key (j.number ∷ []) is) j
reach_in_interfaces is (Take n) = beside (find interface_key (n ∷ []) is)

abbrev pub reach_of_routers : TableChange Router (List ℕ) → Reach
reach_of_routers Keep = Nowhere
reach_of_routers (Put q) = OfRouter q.handle
reach_of_routers (Take handle) = OfRouter handle

abbrev pub reach_of_irr : TableChange IrrList (ℕ × Family) → Reach
reach_of_irr Keep = Nowhere
reach_of_irr (Put l) = OfFamily l.member l.family
reach_of_irr (Take k) = OfFamily k.0 k.1

abbrev pub reach_of_origins : TableChange OriginList (ℕ × Family) → Reach
reach_of_origins Keep = Nowhere
reach_of_origins (Put l) = OfFamily l.member l.family
reach_of_origins (Take k) = OfFamily k.0 k.1

abbrev pub reach_of_rules : TableChange RuleList ℕ → Reach
reach_of_rules Keep = Nowhere
reach_of_rules (Put l) = OfMember l.member
reach_of_rules (Take n) = OfMember n

-- transit-free networks count in each session's part, the other public lists in none
abbrev pub reach_of_list : PublicList → Reach
reach_of_list (Transit xs) = Everywhere
reach_of_list (Bogons xs) = Nowhere
reach_of_list (BogonAs xs) = Nowhere
reach_of_list (Roas xs) = Nowhere

-- The sessions that a change of the registry reaches. Contacts, keys, switches, ports and VLANs stand in no
-- text; an interface that is new or goes, or gets another address, changes what its member's sessions beside
-- it say.
abbrev pub reach : Registry → RegistryChange → Reach
reach r (of.Members c) = reach_in_members r.members c
reach r (of.Contacts c) = Nowhere
reach r (of.Keys c) = Nowhere
reach r (of.Switches c) = Nowhere
reach r (of.Ports c) = Nowhere
reach r (of.Vlans c) = Nowhere
reach r (of.Interfaces c) = reach_in_interfaces r.interfaces c
reach r (of.Routers c) = reach_of_routers c
reach r (of.Irr c) = reach_of_irr c
reach r (of.Origins c) = reach_of_origins c
reach r (of.Rules c) = reach_of_rules c
reach r (of.Public list) = reach_of_list list

-- every header says the public lists but the ROAs
abbrev pub header_reach_of_list : PublicList → Reach
header_reach_of_list (Transit xs) = Everywhere
header_reach_of_list (Bogons xs) = Everywhere
header_reach_of_list (BogonAs xs) = Everywhere
header_reach_of_list (Roas xs) = Nowhere

-- the headers that a change reaches: the router's own, or all where a public list other than the ROAs is put
abbrev pub header_reach : RegistryChange → Reach
header_reach (of.Routers c) = reach_of_routers c
header_reach (of.Public list) = header_reach_of_list list
header_reach c = Nowhere

-- which headers these are, by the handle of their router
abbrev pub takes_header : Reach → List ℕ → Bool
takes_header (OfRouter handle) h = same handle h
takes_header Everywhere h = true
takes_header x h = false

abbrev pub is_roas : PublicList → Bool
is_roas (Roas xs) = true
is_roas (Bogons xs) = false
is_roas (BogonAs xs) = false
is_roas (Transit xs) = false

abbrev pub touches_roas : RegistryChange → Bool
touches_roas (of.Public list) = is_roas list
touches_roas c = false

-- whether there may be sessions after the change that there weren't before, or routers
abbrev pub may_bring : RegistryChange → Bool
may_bring (of.Members c) = true
may_bring (of.Interfaces c) = true
may_bring (of.Routers c) = true
may_bring c = false
