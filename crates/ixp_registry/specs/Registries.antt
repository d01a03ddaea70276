-- The rows of a registry, and the lowest rule that rows break.
use Rattle.std.specs.Prelude.{ℕ, suc, List, [], ◌∷◌, ◌++◌, Option, Some, None, map, flat_map}
use Rattle.ixp_registry.specs.declared.breach.Breach.{Breach}
use Rattle.ixp_registry.specs.declared.network.IfAddr.{IfAddr}
use Rattle.ixp_registry.specs.declared.network.Interface.{Interface}
use Rattle.ixp_registry.specs.declared.network.InterfaceRow.{InterfaceRow}
use Rattle.ixp_registry.specs.declared.network.AddressRow.{AddressRow}
use Rattle.ixp_registry.specs.declared.lists.IrrList.{IrrList}
use Rattle.ixp_registry.specs.declared.lists.OriginList.{OriginList}
use Rattle.ixp_registry.specs.declared.lists.MemberPrefix.{MemberPrefix}
use Rattle.ixp_registry.specs.declared.lists.MemberOrigin.{MemberOrigin}
use Rattle.ixp_registry.specs.declared.rules.MemberRule.{MemberRule}
use Rattle.ixp_registry.specs.declared.rules.RuleList.{RuleList}
use Rattle.ixp_registry.specs.declared.rows.Rows.{Rows}
use Rattle.ixp_registry.specs.declared.registry.Registry.{Registry}
use Rattle.ixp_registry.specs.Rules.{rules}

abbrev pub bare : Interface → InterfaceRow
bare i = record { number = i.number; member = i.member; port = i.port; vlan = i.vlan }

abbrev pub address_rows : ℕ → Option IfAddr → List AddressRow
address_rows interface None = []
address_rows interface (Some a) = record { interface = interface; address = a } ∷ []

abbrev pub addresses_of : Interface → List AddressRow
addresses_of i = address_rows i.number i.v4 ++ address_rows i.number i.v6

abbrev pub prefixes_of : IrrList → List MemberPrefix
prefixes_of l = map (λ p. record { member = l.member; prefix = p }) l.prefixes

abbrev pub origins_of : OriginList → List MemberOrigin
origins_of l = map (λ a. record { member = l.member; family = l.family; asn = a }) l.asns

abbrev pub rules_in : RuleList → List MemberRule
rules_in l = l.rules

-- the rows of a registry, as they stand in its dump
abbrev pub rows_of : Registry → Rows
rows_of r = record {
  site = r.site;
  members = r.members;
  contacts = r.contacts;
  keys = r.keys;
  switches = r.switches;
  ports = r.ports;
  vlans = r.vlans;
  interfaces = map bare r.interfaces;
  addresses = flat_map addresses_of r.interfaces;
  routers = r.routers;
  prefixes = flat_map prefixes_of r.irr;
  origins = flat_map origins_of r.origins;
  rules = flat_map rules_in r.rules;
  public = r.public;
}

-- the first rule that has a place, the rules being numbered from n
abbrev pub first_rule : ℕ → List (Option ℕ) → Option Breach
first_rule n [] = None
first_rule n (None ∷ places) = first_rule (suc n) places
first_rule n (Some line ∷ places) = Some (record { rule = n; line = line })

-- the lowest rule that the rows break, and where
abbrev pub breach : Rows → Option Breach
breach w = first_rule 1 (rules w)
