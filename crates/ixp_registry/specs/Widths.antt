-- What the fields of a row can hold: numbers of 32 bits, and bytes.
use Rattle.std.specs.Prelude.{◌≡◌, ℕ, ◌<◌, ◌^◌, true, List, IfSome}
use Rattle.std.specs.List.{AllByRecursion}
use Rattle.ixp_num.specs.declared.asn.Asn.{Asn}
use Rattle.ixp_num.specs.declared.roa.Roa.{Roa}
use Rattle.ixp_num.specs.Names.{is_name}
use Rattle.ixp_registry.specs.declared.site.Site.{Site}
use Rattle.ixp_registry.specs.declared.members.Member.{Member}
use Rattle.ixp_registry.specs.declared.members.Contact.{Contact}
use Rattle.ixp_registry.specs.declared.members.ApiKey.{ApiKey}
use Rattle.ixp_registry.specs.declared.members.Owner.{Owner}
use Rattle.ixp_registry.specs.declared.members.Owner.TheVariants.{Staff, Member as Of}
use Rattle.ixp_registry.specs.declared.network.Switch.{Switch}
use Rattle.ixp_registry.specs.declared.network.Port.{Port}
use Rattle.ixp_registry.specs.declared.network.Vlan.{Vlan}
use Rattle.ixp_registry.specs.declared.network.IfAddr.{IfAddr}
use Rattle.ixp_registry.specs.declared.network.Interface.{Interface}
use Rattle.ixp_registry.specs.declared.router.Router.{Router}
use Rattle.ixp_registry.specs.declared.rules.MemberRule.{MemberRule}

abbrev pub IsNumber : ℕ → Type 0
IsNumber n = n < 2 ^ 32

abbrev pub IsByte : ℕ → Type 0
IsByte c = c < 256

abbrev pub AreBytes : List ℕ → Type 0
AreBytes t = AllByRecursion IsByte t

abbrev pub SiteFits : Site → Type 0
SiteFits s = IsNumber s.ixp_id × IsNumber s.ixf_id × AreBytes s.shortname

abbrev pub MemberFits : Member → Type 0
MemberFits m = IsNumber m.number × IsNumber m.asn.0 × AreBytes m.as_macro × AreBytes m.name

abbrev pub ContactFits : Contact → Type 0
ContactFits c = IsNumber c.member × IsNumber c.place × AreBytes c.role × AreBytes c.mail × AreBytes c.name

abbrev pub owner_number : Owner → ℕ
owner_number (Staff n) = n
owner_number (Of n) = n

abbrev pub KeyFits : ApiKey → Type 0
KeyFits k = IsNumber k.number × IsNumber (owner_number k.owner)

abbrev pub SwitchFits : Switch → Type 0
SwitchFits s = IsNumber s.number × AreBytes s.name

abbrev pub PortFits : Port → Type 0
PortFits p = IsNumber p.number × IsNumber p.switch × IsNumber p.speed × IsNumber p.member × AreBytes p.name

abbrev pub VlanFits : Vlan → Type 0
VlanFits v = IsNumber v.number × IsNumber v.tag × AreBytes v.name

abbrev pub AddressFits : IfAddr → Type 0
AddressFits a = IsNumber a.max_prefix

abbrev pub InterfaceFits : Interface → Type 0
InterfaceFits i = IsNumber i.number × IsNumber i.member × IsNumber i.port × IsNumber i.vlan
    × IfSome i.v4 AddressFits × IfSome i.v6 AddressFits

abbrev pub RouterFits : Router → Type 0
RouterFits q =
    (is_name q.handle ≡ true) × IsNumber q.vlan × IsNumber q.asn.0 × IsNumber q.id × IsNumber q.low
    × IsNumber q.high × IsNumber q.max_comms

abbrev pub RuleFits : MemberRule → Type 0
RuleFits x = IsNumber x.member × IsNumber x.place × IfSome x.peer (λ p. IsNumber p.0)

abbrev pub AsnFits : Asn → Type 0
AsnFits a = IsNumber a.0

abbrev pub RangeFits : Asn × Asn → Type 0
RangeFits r = AsnFits r.0 × AsnFits r.1

abbrev pub RoaFits : Roa → Type 0
RoaFits r = AsnFits r.asn
