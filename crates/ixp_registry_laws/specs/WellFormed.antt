-- Registries such as rows of tables make: tables ascend, fields hold what they can hold, what stands in a
-- family's column is of the family, and lists ascend, aren't empty and have their member and family.
use Rattle.std.specs.Prelude.{◌≡◌, ◌≢◌, []}
use Rattle.std.specs.List.{AllByRecursion}
use Rattle.ixp_num.specs.declared.family.Family.TheVariants.{V4, V6}
use Rattle.ixp_num_tables.specs.Tables.{Ascends}
use Rattle.ixp_num_sorted.specs.Keys.{prefix_key, pattern_key, range_key, asn_key, roa_key}
use Rattle.ixp_registry.specs.declared.lists.IrrList.{IrrList}
use Rattle.ixp_registry.specs.declared.lists.OriginList.{OriginList}
use Rattle.ixp_registry.specs.declared.network.Interface.{Interface}
use Rattle.ixp_registry.specs.declared.rules.RuleList.{RuleList}
use Rattle.ixp_registry.specs.declared.registry.Registry.{Registry}
use Rattle.ixp_registry.specs.Keys.{member_key, contact_key, api_key_key, switch_key, port_key, vlan_key, interface_key, router_key, irr_key, origins_key, rules_key}
use Rattle.ixp_registry.specs.Valid.{IsIn}
use Rattle.ixp_registry.specs.Widths.{IsNumber, SiteFits, MemberFits, ContactFits, KeyFits, SwitchFits, PortFits, VlanFits, InterfaceFits, RouterFits, RuleFits, AsnFits, RangeFits, RoaFits}

-- its addresses are of their columns' families
abbrev pub HasColumns : Interface → Type 0
HasColumns i = IsIn V4 i.v4 × IsIn V6 i.v6

abbrev pub IsPrefixList : IrrList → Type 0
IsPrefixList l = (l.prefixes ≢ []) × Ascends prefix_key l.prefixes
    × AllByRecursion (λ p. p.family ≡ l.family) l.prefixes

abbrev pub IsOriginList : OriginList → Type 0
IsOriginList l = (l.asns ≢ []) × Ascends asn_key l.asns

abbrev pub IsRuleList : RuleList → Type 0
IsRuleList l = (l.rules ≢ []) × AllByRecursion (λ x. x.member ≡ l.member) l.rules

-- The tables ascend, and so do public lists.
pub record AreOrdered (r : Registry) : Type 0 where
  pub members : Ascends member_key r.members
  pub contacts : Ascends contact_key r.contacts
  pub keys : Ascends api_key_key r.keys
  pub switches : Ascends switch_key r.switches
  pub ports : Ascends port_key r.ports
  pub vlans : Ascends vlan_key r.vlans
  pub interfaces : Ascends interface_key r.interfaces
  pub routers : Ascends router_key r.routers
  pub irr : Ascends irr_key r.irr
  pub origins : Ascends origins_key r.origins
  pub rules : Ascends rules_key r.rules
  pub bogons : Ascends pattern_key r.public.bogons
  pub bogon_as : Ascends range_key r.public.bogon_as
  pub transit : Ascends asn_key r.public.transit
  pub roas : Ascends roa_key r.public.roas

-- Fields hold what they can hold.
pub record FieldsFit (r : Registry) : Type 0 where
  pub site : SiteFits r.site
  pub members : AllByRecursion MemberFits r.members
  pub contacts : AllByRecursion ContactFits r.contacts
  pub keys : AllByRecursion KeyFits r.keys
  pub switches : AllByRecursion SwitchFits r.switches
  pub ports : AllByRecursion PortFits r.ports
  pub vlans : AllByRecursion VlanFits r.vlans
  pub interfaces : AllByRecursion InterfaceFits r.interfaces
  pub routers : AllByRecursion RouterFits r.routers
  pub irr : AllByRecursion (λ l. IsNumber l.member) r.irr
  pub origins : AllByRecursion (λ l. IsNumber l.member × AllByRecursion AsnFits l.asns) r.origins
  pub rules : AllByRecursion (λ l. IsNumber l.member × AllByRecursion RuleFits l.rules) r.rules
  pub bogon_as : AllByRecursion RangeFits r.public.bogon_as
  pub transit : AllByRecursion AsnFits r.public.transit
  pub roas : AllByRecursion RoaFits r.public.roas

-- Addresses stand in their columns, and lists are such as rows make.
pub record HasLists (r : Registry) : Type 0 where
  pub interfaces : AllByRecursion HasColumns r.interfaces
  pub irr : AllByRecursion IsPrefixList r.irr
  pub origins : AllByRecursion IsOriginList r.origins
  pub rules : AllByRecursion IsRuleList r.rules

pub record IsWellFormed (r : Registry) : Type 0 where
  pub ordered : AreOrdered r
  pub fit : FieldsFit r
  pub listed : HasLists r
