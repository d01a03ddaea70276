-- Which registries are valid, table by table: the order of its rows, what each row keeps alone, what it says
-- by the rows that it names, and limits. This is what there is to believe of a valid registry. That it is so
-- exactly where no row breaks a rule (Rules) is a law of ixp_registry_laws.
use Rattle.std.specs.Prelude.{◌≡◌, ◌≢◌, ℕ, suc, ◌≤◌, ◌+◌, ⊤, List, [], ◌∷◌, length, Option, Some, None, true, false, not, nat_le, ◌&&◌, ◌||◌, ◌==◌}
use Rattle.std.specs.List.{AllByRecursion, list_any, list_all}
use Rattle.ixp_num.specs.declared.family.Family.{Family}
use Rattle.ixp_num.specs.declared.family.Family.TheVariants.{V4, V6}
use Rattle.ixp_num.specs.Families.{same_family}
use Rattle.ixp_num_tables.specs.Tables.{Ascends, if_there, same}
use Rattle.ixp_num_tables.specs.Sums.{total, count, one_if, Often, Pairs}
use Rattle.ixp_num_sorted.specs.Keys.{prefix_key, pattern_key, range_key, asn_key, roa_key}
use Rattle.ixp_registry.specs.declared.site.Site.{Site}
use Rattle.ixp_registry.specs.declared.members.Member.{Member}
use Rattle.ixp_registry.specs.declared.members.Contact.{Contact}
use Rattle.ixp_registry.specs.declared.members.ApiKey.{ApiKey}
use Rattle.ixp_registry.specs.declared.network.Switch.{Switch}
use Rattle.ixp_registry.specs.declared.network.Port.{Port}
use Rattle.ixp_registry.specs.declared.network.Vlan.{Vlan}
use Rattle.ixp_registry.specs.declared.network.IfAddr.{IfAddr}
use Rattle.ixp_registry.specs.declared.network.Interface.{Interface}
use Rattle.ixp_registry.specs.declared.router.Router.{Router}
use Rattle.ixp_registry.specs.declared.lists.IrrList.{IrrList}
use Rattle.ixp_registry.specs.declared.lists.OriginList.{OriginList}
use Rattle.ixp_registry.specs.declared.lists.PublicLists.{PublicLists}
use Rattle.ixp_registry.specs.declared.rules.MemberRule.{MemberRule}
use Rattle.ixp_registry.specs.declared.rules.RuleList.{RuleList}
use Rattle.ixp_registry.specs.declared.registry.Registry.{Registry}
use Rattle.ixp_registry.specs.Alphabets.{is_label, is_note, is_macro, is_session_secret, is_key_secret, is_handle}
use Rattle.ixp_registry.specs.Keys.{member_key, contact_key, api_key_key, switch_key, port_key, vlan_key, interface_key, router_key, irr_key, origins_key, rules_key}
use Rattle.ixp_registry.specs.Lookups.{has_member, has_switch, has_vlan, has_owner, is_port_of, has_left, listed, vlan_prefixes, is_host_in, has_addr, has_blackhole}
use Rattle.ixp_registry.specs.Registries.{addresses_of}
use Rattle.ixp_registry.specs.Weight.{weight}
use Rattle.ixp_registry.specs.Widths.{IsNumber, SiteFits, MemberFits, ContactFits, KeyFits, SwitchFits, PortFits, VlanFits, InterfaceFits, RouterFits, RuleFits, AsnFits, RangeFits, RoaFits}
use Rattle.ixp_registry.specs.Words.{is_reserved, is_vlan_length, overlaps_any, is_of, addr_numbers, owner_numbers, is_staff_number, is_lawful, has_bounds, pattern_has_bounds, range_ascends, roa_has_bounds}

pub record ValidSite (s : Site) : Type 0 where
  pub fits : SiteFits s
  pub shortname : is_note s.shortname ≡ true

-- Members: no two have one AS number.
pub record ValidMember (m : Member) : Type 0 where
  pub fits : MemberFits m
  pub number : (m.number == 0) ≡ false
  pub texts : (is_macro m.as_macro && is_label m.name) ≡ true
  pub asn : is_reserved m.asn.0 ≡ false

pub record ValidMembers (ms : List Member) : Type 0 where
  pub order : Ascends member_key ms
  pub each : AllByRecursion ValidMember ms
  pub asns : Often 1 (λ m. m.asn.0 ∷ []) ms
  pub few : length ms ≤ 4000

-- Contacts: their member is there.
pub record ValidContact (c : Contact) : Type 0 where
  pub fits : ContactFits c
  pub place : (c.place == 0) ≡ false
  pub texts : (is_note c.role && is_note c.mail && is_label c.name) ≡ true

pub record ValidContacts (ms : List Member) (cs : List Contact) : Type 0 where
  pub order : Ascends contact_key cs
  pub each : AllByRecursion ValidContact cs
  pub members : AllByRecursion (λ c. has_member ms c.member ≡ true) cs
  pub few : Often 16 (λ c. c.member ∷ []) cs

-- API keys: their owner is there, and no two have one secret.
pub record ValidKey (k : ApiKey) : Type 0 where
  pub fits : KeyFits k
  pub number : (k.number == 0) ≡ false
  pub secret : is_key_secret k.secret ≡ true
  pub staff : is_staff_number k.owner ≡ true

pub record ValidKeys (ms : List Member) (ks : List ApiKey) : Type 0 where
  pub order : Ascends api_key_key ks
  pub each : AllByRecursion ValidKey ks
  pub owners : AllByRecursion (λ k. has_owner ms k.owner ≡ true) ks
  pub secrets : Often 1 (λ k. k.secret) ks
  pub few : Often 8 (λ k. owner_numbers k.owner) ks

pub record ValidSwitch (s : Switch) : Type 0 where
  pub fits : SwitchFits s
  pub number : (s.number == 0) ≡ false
  pub name : is_label s.name ≡ true

pub record ValidSwitches (ss : List Switch) : Type 0 where
  pub order : Ascends switch_key ss
  pub each : AllByRecursion ValidSwitch ss
  pub few : length ss ≤ 256

-- Ports: their switch is there, and the member to which one belongs; that of a free one is 0.
pub record ValidPort (p : Port) : Type 0 where
  pub fits : PortFits p
  pub number : (p.number == 0 || p.speed == 0) ≡ false
  pub name : is_label p.name ≡ true

pub record ValidPorts (ms : List Member) (ss : List Switch) (ps : List Port) : Type 0 where
  pub order : Ascends port_key ps
  pub each : AllByRecursion ValidPort ps
  pub switches : AllByRecursion (λ p. has_switch ss p.switch ≡ true) ps
  pub members : AllByRecursion (λ p. (p.member == 0 || has_member ms p.member) ≡ true) ps
  pub few : length ps ≤ 16384

-- VLANs: no two prefixes overlap.
pub record ValidVlan (v : Vlan) : Type 0 where
  pub fits : VlanFits v
  pub number : (v.number == 0) ≡ false
  pub name : is_label v.name ≡ true
  pub bounds : (list_all is_vlan_length (vlan_prefixes v) && nat_le 1 v.tag && nat_le v.tag 4094) ≡ true
  pub families : (is_of V4 v.v4 && is_of V6 v.v6) ≡ true
  pub apart : list_any (overlaps_any (listed v.v4)) (listed v.v6) ≡ false

pub record ValidVlans (vs : List Vlan) : Type 0 where
  pub order : Ascends vlan_key vs
  pub each : AllByRecursion ValidVlan vs
  pub apart : Pairs (λ u v. list_any (overlaps_any (vlan_prefixes u)) (vlan_prefixes v) ≡ false) vs
  pub few : length vs ≤ 64

-- Interfaces: their member is there and hasn't left, their port belongs to it, their VLAN is there, and each
-- address is one that an interface may have in the VLAN. What stands in a family's column is of the family.
abbrev pub IsIn : Family → Option IfAddr → Type 0
IsIn family None = Unit {0}
IsIn family (Some a) = a.addr.family ≡ family

pub record ValidInterface (i : Interface) : Type 0 where
  pub fits : InterfaceFits i
  pub number : (i.number == 0) ≡ false
  pub columns : IsIn V4 i.v4 × IsIn V6 i.v6
  pub secrets : AllByRecursion (λ a. is_session_secret a.address.secret ≡ true) (addresses_of i)

pub record NamesOfInterface (ms : List Member) (ps : List Port) (vs : List Vlan)
    (i : Interface) : Type 0 where
  pub member : has_member ms i.member ≡ true
  pub stays : has_left ms i.member ≡ false
  pub port : is_port_of ps i.port i.member ≡ true
  pub vlan : has_vlan vs i.vlan ≡ true
  pub hosts : AllByRecursion (λ a. is_host_in vs i.vlan a.address.addr.family a.address.addr
      ≡ true) (addresses_of i)

pub record ValidInterfaces (ms : List Member) (ps : List Port) (vs : List Vlan)
    (is : List Interface) : Type 0 where
  pub order : Ascends interface_key is
  pub each : AllByRecursion ValidInterface is
  pub named : AllByRecursion (NamesOfInterface ms ps vs) is
  pub few : length is ≤ 8000
  pub per_member : Often 16 (λ i. i.member ∷ []) is

-- Routers: their VLAN is there, and their address is one that a router may have in it; none has a member's AS
-- number. A blackhole address (RFC 7999) is of the router's family, another one of the VLAN, and no
-- interface's or router's; a router of AS 65535 has none.
pub record ValidRouter (q : Router) : Type 0 where
  pub fits : RouterFits q
  pub handle : is_handle q.handle ≡ true
  pub asn : is_reserved q.asn.0 ≡ false
  pub bounds : has_bounds q ≡ true
  pub communities : nat_le q.max_comms 1000 ≡ true
  pub blackhole : if_there q.blackhole true (λ b. same_family b.family q.family && not (q.asn.0 == 65535))
      ≡ true
  pub other : has_blackhole q q.addr ≡ false

pub record NamesOfRouter (ms : List Member) (vs : List Vlan) (is : List Interface) (q : Router) : Type 0 where
  pub asn : AllByRecursion (λ m. (m.asn.0 == q.asn.0) ≡ false) ms
  pub vlan : has_vlan vs q.vlan ≡ true
  pub host : is_host_in vs q.vlan q.family q.addr ≡ true
  pub blackhole : if_there q.blackhole true (λ b. is_host_in vs q.vlan q.family b) ≡ true
  pub free : AllByRecursion (λ i. if_there q.blackhole false (λ b. has_addr b i) ≡ false) is

-- how often an interface or a router has an address
abbrev pub holds : List ℕ → Interface → ℕ
holds k i = count (λ a. same k (addr_numbers a.address.addr)) (addresses_of i)

abbrev pub answers : List ℕ → Router → ℕ
answers k q = one_if (same k (addr_numbers q.addr))

pub record ValidRouters (ms : List Member) (vs : List Vlan) (is : List Interface)
    (qs : List Router) : Type 0 where
  pub order : Ascends router_key qs
  pub each : AllByRecursion ValidRouter qs
  pub named : AllByRecursion (NamesOfRouter ms vs is) qs
  pub apart : Pairs (λ p q. (has_blackhole q p.addr || has_blackhole p q.addr) ≡ false) qs
  pub few : length qs ≤ 16
  -- no two interfaces or routers share an address
  pub addresses : (k : List ℕ) → total (holds k) is + total (answers k) qs ≤ 1

-- Lists of members: none is empty, and they ascend, without doubles.
pub record ValidIrrList (l : IrrList) : Type 0 where
  pub fits : IsNumber l.member
  pub some : l.prefixes ≢ []
  pub order : Ascends prefix_key l.prefixes
  pub family : AllByRecursion (λ p. p.family ≡ l.family) l.prefixes
  pub few : length l.prefixes ≤ 300000

pub record ValidIrr (ms : List Member) (ls : List IrrList) : Type 0 where
  pub order : Ascends irr_key ls
  pub each : AllByRecursion ValidIrrList ls
  pub members : AllByRecursion (λ l. has_member ms l.member ≡ true) ls
  pub few : total (λ l. length l.prefixes) ls ≤ 4000000

pub record ValidOriginList (l : OriginList) : Type 0 where
  pub fits : IsNumber l.member × AllByRecursion AsnFits l.asns
  pub some : l.asns ≢ []
  pub order : Ascends asn_key l.asns
  pub few : length l.asns ≤ 300000

pub record ValidOrigins (ms : List Member) (ls : List OriginList) : Type 0 where
  pub order : Ascends origins_key ls
  pub each : AllByRecursion ValidOriginList ls
  pub members : AllByRecursion (λ l. has_member ms l.member ≡ true) ls

-- the rules have these places, one after the other
abbrev pub ArePlaced : ℕ → List MemberRule → Type 0
ArePlaced n [] = ⊤
ArePlaced n (x ∷ xs) = (x.place ≡ n) × ArePlaced (suc n) xs

pub record ValidRuleList (l : RuleList) : Type 0 where
  pub fits : IsNumber l.member × AllByRecursion RuleFits l.rules
  pub some : l.rules ≢ []
  pub member : AllByRecursion (λ x. x.member ≡ l.member) l.rules
  pub places : ArePlaced 1 l.rules
  pub lawful : AllByRecursion (λ x. is_lawful x ≡ true) l.rules
  pub few : length l.rules ≤ 64

pub record ValidRules (ms : List Member) (ls : List RuleList) : Type 0 where
  pub order : Ascends rules_key ls
  pub each : AllByRecursion ValidRuleList ls
  pub members : AllByRecursion (λ l. has_member ms l.member ≡ true) ls

-- Public lists: they ascend, without doubles, and bounds ascend within the family.
pub record ValidPublic (p : PublicLists) : Type 0 where
  pub bogons : Ascends pattern_key p.bogons
  pub bogon_as : Ascends range_key p.bogon_as
  pub transit : Ascends asn_key p.transit
  pub roas : Ascends roa_key p.roas
  pub fits : AllByRecursion RangeFits p.bogon_as × AllByRecursion AsnFits p.transit
      × AllByRecursion RoaFits p.roas
  pub patterns : AllByRecursion (λ b. pattern_has_bounds b ≡ true) p.bogons
  pub ranges : AllByRecursion (λ r. range_ascends r ≡ true) p.bogon_as
  pub lengths : AllByRecursion (λ r. roa_has_bounds r ≡ true) p.roas
  pub few : (length p.bogons ≤ 10000) × (length p.bogon_as ≤ 10000) × (length p.transit ≤ 10000)
      × (length p.roas ≤ 1000000)

pub record Valid (r : Registry) : Type 0 where
  pub site : ValidSite r.site
  pub members : ValidMembers r.members
  pub contacts : ValidContacts r.members r.contacts
  pub keys : ValidKeys r.members r.keys
  pub switches : ValidSwitches r.switches
  pub ports : ValidPorts r.members r.switches r.ports
  pub vlans : ValidVlans r.vlans
  pub interfaces : ValidInterfaces r.members r.ports r.vlans r.interfaces
  pub routers : ValidRouters r.members r.vlans r.interfaces r.routers
  pub irr : ValidIrr r.members r.irr
  pub origins : ValidOrigins r.members r.origins
  pub rules : ValidRules r.members r.rules
  pub public : ValidPublic r.public
  pub light : weight r.members r.interfaces r.routers r.irr ≤ 8000000
