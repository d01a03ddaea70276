-- The keys of the rows, in the order of a dump's lines: numbers by value, texts by bytes, addresses and
-- prefixes with IPv4 first. Those of the items of public lists stand in ixp_num.
use Rattle.std.specs.Prelude.{ℕ, List, [], ◌∷◌}
use Rattle.ixp_num.specs.AddressForms.{version_of}
use Rattle.ixp_num_sorted.specs.Keys.{prefix_key}
use Rattle.ixp_registry.specs.declared.members.Member.{Member}
use Rattle.ixp_registry.specs.declared.members.Contact.{Contact}
use Rattle.ixp_registry.specs.declared.members.ApiKey.{ApiKey}
use Rattle.ixp_registry.specs.declared.network.Switch.{Switch}
use Rattle.ixp_registry.specs.declared.network.Port.{Port}
use Rattle.ixp_registry.specs.declared.network.Vlan.{Vlan}
use Rattle.ixp_registry.specs.declared.network.Interface.{Interface}
use Rattle.ixp_registry.specs.declared.network.InterfaceRow.{InterfaceRow}
use Rattle.ixp_registry.specs.declared.network.AddressRow.{AddressRow}
use Rattle.ixp_registry.specs.declared.router.Router.{Router}
use Rattle.ixp_registry.specs.declared.lists.IrrList.{IrrList}
use Rattle.ixp_registry.specs.declared.lists.OriginList.{OriginList}
use Rattle.ixp_registry.specs.declared.lists.MemberPrefix.{MemberPrefix}
use Rattle.ixp_registry.specs.declared.lists.MemberOrigin.{MemberOrigin}
use Rattle.ixp_registry.specs.declared.rules.MemberRule.{MemberRule}
use Rattle.ixp_registry.specs.declared.rules.RuleList.{RuleList}

abbrev pub member_key : Member → List ℕ
member_key m = m.number ∷ []

abbrev pub contact_key : Contact → List ℕ
contact_key c = c.member ∷ c.place ∷ []

abbrev pub api_key_key : ApiKey → List ℕ
api_key_key k = k.number ∷ []

abbrev pub switch_key : Switch → List ℕ
switch_key s = s.number ∷ []

abbrev pub port_key : Port → List ℕ
port_key p = p.number ∷ []

abbrev pub vlan_key : Vlan → List ℕ
vlan_key v = v.number ∷ []

abbrev pub interface_key : Interface → List ℕ
interface_key i = i.number ∷ []

abbrev pub interface_row_key : InterfaceRow → List ℕ
interface_row_key i = i.number ∷ []

abbrev pub address_key : AddressRow → List ℕ
address_key a = a.interface ∷ version_of a.address.addr.family ∷ []

abbrev pub router_key : Router → List ℕ
router_key r = r.handle

abbrev pub irr_key : IrrList → List ℕ
irr_key l = l.member ∷ version_of l.family ∷ []

abbrev pub origins_key : OriginList → List ℕ
origins_key l = l.member ∷ version_of l.family ∷ []

abbrev pub member_prefix_key : MemberPrefix → List ℕ
member_prefix_key p = p.member ∷ prefix_key p.prefix

abbrev pub member_origin_key : MemberOrigin → List ℕ
member_origin_key o = o.member ∷ version_of o.family ∷ o.asn.0 ∷ []

abbrev pub rules_key : RuleList → List ℕ
rules_key l = l.member ∷ []

abbrev pub rule_key : MemberRule → List ℕ
rule_key r = r.member ∷ r.place ∷ []
