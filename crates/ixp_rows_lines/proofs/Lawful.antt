-- Rows whose numbers and bytes are in their types' ranges have lines of the format.
use Rattle.std.proofs.Common.{◌≡◌, ℕ, ◌<◌, ◌^◌, Bool, true, false, List, [], ◌∷◌, ◌++◌, codes, decimal, Option, Some, None, IfSome, inl, inr, refl, sym, ap, ◌∙◌, subst}
use Rattle.std.specs.List.{AllByRecursion, list_any}
use Rattle.ixp_num.specs.Names.{is_name}
use Rattle.ixp_num.specs.declared.family.Family.{Family}
use Rattle.ixp_num.specs.declared.family.Family.TheVariants.{V4, V6}
use Rattle.ixp_num.specs.declared.addr.Addr.{Addr}
use Rattle.ixp_num.specs.declared.prefix.Prefix.{Prefix}
use Rattle.ixp_num.specs.declared.pattern.Pattern.{Pattern}
use Rattle.ixp_num.specs.declared.asn.Asn.{Asn}
use Rattle.ixp_num.specs.declared.roa.Roa.{Roa}
use Rattle.ixp_num_tables.specs.Tables.{same}
use Rattle.ixp_registry.specs.declared.site.Site.{Site}
use Rattle.ixp_registry.specs.declared.members.Member.{Member}
use Rattle.ixp_registry.specs.declared.members.Status.{Status}
use Rattle.ixp_registry.specs.declared.members.Status.TheVariants.{Noted, Connected, Suspended, Left}
use Rattle.ixp_registry.specs.declared.members.Contact.{Contact}
use Rattle.ixp_registry.specs.declared.members.ApiKey.{ApiKey}
use Rattle.ixp_registry.specs.declared.members.Owner.{Owner}
use Rattle.ixp_registry.specs.declared.members.Owner.TheVariants.{Staff, Member as Of}
use Rattle.ixp_registry.specs.declared.network.Switch.{Switch}
use Rattle.ixp_registry.specs.declared.network.Port.{Port}
use Rattle.ixp_registry.specs.declared.network.Vlan.{Vlan}
use Rattle.ixp_registry.specs.declared.network.InterfaceRow.{InterfaceRow}
use Rattle.ixp_registry.specs.declared.network.AddressRow.{AddressRow}
use Rattle.ixp_registry.specs.declared.router.Router.{Router}
use Rattle.ixp_registry.specs.declared.lists.MemberPrefix.{MemberPrefix}
use Rattle.ixp_registry.specs.declared.lists.MemberOrigin.{MemberOrigin}
use Rattle.ixp_registry.specs.declared.rules.MemberRule.{MemberRule}
use Rattle.ixp_registry.specs.declared.rules.Way.{Way}
use Rattle.ixp_registry.specs.declared.rules.Way.TheVariants.{Advertise, Receive}
use Rattle.ixp_registry.specs.declared.rules.Action.{Action}
use Rattle.ixp_registry.specs.declared.rules.Action.TheVariants.{AsIs, Prepend, Stop}
use Rattle.ixp_rows_lines.specs.declared.version.Version.{Version}
use Rattle.ixp_rows_lines.specs.declared.version.Version.TheVariants.{One, Two}
use Rattle.ixp_rows_lines.specs.Fields.{Word, Secret, ANumber, ASecret, ANet, AnAddress, Or, Fits}
use Rattle.ixp_registry.specs.Widths.{IsByte, owner_number}
use Rattle.ixp_rows_lines.specs.Lines.{status_word, flag_word, family_word, way_word, action_word, owner_word, IsAction, flags, families, statuses, owner_kinds, ways, actions, address_field, net_field, asn_field, field_or, IsLine, site_line, member_line, contact_line, key_line, switch_line, port_line, vlan_line, interface_line, address_line, router_line, prefix_line, origin_line, rule_line, bogon_line, bogon_as_line, transit_line, roa_line}
use Rattle.ixp_rows_lines.proofs.DigitWords.{digit_1, digit_2, digit_3}

abbrev pub AreBytes : List ℕ → Type 0
AreBytes t = AllByRecursion IsByte t

-- words
status_fits : (s : Status) → Fits statuses (Word (status_word s))
status_fits Noted = refl
status_fits Connected = refl
status_fits Suspended = refl
status_fits Left = refl

flag_fits : (b : Bool) → Fits flags (Word (flag_word b))
flag_fits true = refl
flag_fits false = refl

family_fits : (f : Family) → Fits families (Word (family_word f))
family_fits V4 = refl
family_fits V6 = refl

way_fits : (w : Way) → Fits ways (Word (way_word w))
way_fits Advertise = refl
way_fits Receive = refl

owner_fits : (o : Owner) → Fits owner_kinds (Word (owner_word o))
owner_fits (Staff n) = refl
owner_fits (Of n) = refl

word_fits : (n : ℕ) (digits : List ℕ) → decimal n ≡ digits → list_any (same (codes "prepend" ++ digits)) (codes "as-is" ∷ codes "prepend1" ∷ codes "prepend2" ∷ codes "prepend3" ∷ codes "stop" ∷ []) ≡ true
    → Fits actions (Word (action_word (Prepend n)))
word_fits n digits e fits = subst (λ ds. Fits actions (Word (codes "prepend" ++ ds))) (sym e) fits

action_fits : (a : Action) → IsAction a → Fits actions (Word (action_word a))
action_fits AsIs is = refl
action_fits Stop is = refl
action_fits (Prepend n) (inl e) = word_fits n (49 ∷ []) (ap decimal e ∙ digit_1) refl
action_fits (Prepend n) (inr (inl e)) = word_fits n (50 ∷ []) (ap decimal e ∙ digit_2) refl
action_fits (Prepend n) (inr (inr e)) = word_fits n (51 ∷ []) (ap decimal e ∙ digit_3) refl

-- what may be none
net_or : (word : List ℕ) (o : Option Prefix) → Fits (Or word ANet) (field_or word net_field o)
net_or word None = inl refl
net_or word (Some p) = (p.short, p.fits, p.no_host_bits)

address_or : (word : List ℕ) (o : Option Addr) → Fits (Or word AnAddress) (field_or word address_field o)
address_or word None = inl refl
address_or word (Some a) = a.fits

asn_or : (word : List ℕ) (o : Option Asn) → IfSome o (λ a. a.0 < 2 ^ 32) → Fits (Or word ANumber) (field_or word asn_field o)
asn_or word None low = inl refl
asn_or word (Some a) low = low

-- rows
pub site_lawful : (version : Version) (s : Site) → s.ixp_id < 2 ^ 32 → s.ixf_id < 2 ^ 32 → AreBytes s.shortname → IsLine version (site_line s)
site_lawful version s ixp ixf name = (ixp, (ixf, (name, tt)))

pub member_lawful : (version : Version) (m : Member) → m.number < 2 ^ 32 → m.asn.0 < 2 ^ 32 → AreBytes m.as_macro → AreBytes m.name → IsLine version (member_line m)
member_lawful version m number asn as_macro name = (number, (asn, (status_fits m.status, (as_macro, (name, tt)))))

pub contact_lawful : (version : Version) (c : Contact) → c.member < 2 ^ 32 → c.place < 2 ^ 32 → AreBytes c.role → AreBytes c.mail → AreBytes c.name → IsLine version (contact_line c)
contact_lawful version c member place role mail name = (member, (place, (role, (mail, (name, tt)))))

pub key_lawful : (version : Version) (k : ApiKey) → k.number < 2 ^ 32 → owner_number k.owner < 2 ^ 32 → Fits ASecret (Secret k.secret) → IsLine version (key_line k)
key_lawful version k number owner secret = (number, (owner_fits k.owner, (owner, (secret, tt))))

pub switch_lawful : (version : Version) (s : Switch) → s.number < 2 ^ 32 → AreBytes s.name → IsLine version (switch_line s)
switch_lawful version s number name = (number, (name, tt))

pub port_lawful : (version : Version) (p : Port) → p.number < 2 ^ 32 → p.switch < 2 ^ 32 → p.speed < 2 ^ 32 → p.member < 2 ^ 32 → AreBytes p.name → IsLine version (port_line p)
port_lawful version p number switch speed member name = (number, (switch, (speed, (member, (name, tt)))))

pub vlan_lawful : (version : Version) (v : Vlan) → v.number < 2 ^ 32 → v.tag < 2 ^ 32 → AreBytes v.name → IsLine version (vlan_line v)
vlan_lawful version v number tag name = (number, (tag, (net_or (codes "-") v.v4, (net_or (codes "-") v.v6, (name, tt)))))

pub interface_lawful : (version : Version) (i : InterfaceRow) → i.number < 2 ^ 32 → i.member < 2 ^ 32 → i.port < 2 ^ 32 → i.vlan < 2 ^ 32 → IsLine version (interface_line i)
interface_lawful version i number member port vlan = (number, (member, (port, (vlan, tt))))

pub address_lawful : (version : Version) (a : AddressRow) → a.interface < 2 ^ 32 → a.address.max_prefix < 2 ^ 32 → Fits ASecret (Secret a.address.secret) → IsLine version (address_line a)
address_lawful version a interface most secret =
    (interface, (a.address.addr.fits, (most, (flag_fits a.address.rs, (flag_fits a.address.irr, (flag_fits a.address.more, (secret, tt)))))))

-- a router's numbers are in their type's range, and its handle is a name
pub record IsRouterRow (r : Router) : Type 0 where
  pub handle : is_name r.handle ≡ true
  pub vlan : r.vlan < 2 ^ 32
  pub asn : r.asn.0 < 2 ^ 32
  pub id : r.id < 2 ^ 32
  pub low : r.low < 2 ^ 32
  pub high : r.high < 2 ^ 32
  pub max_comms : r.max_comms < 2 ^ 32

pub router_lawful : (version : Version) (r : Router) → IsRouterRow r → IsLine version (router_line version r)
router_lawful One r is =
    (is.handle, (is.vlan, (family_fits r.family, (r.addr.fits, (is.asn, (is.id, (is.low, (is.high, (flag_fits r.rpki, tt)))))))))
router_lawful Two r is =
    (is.handle, (is.vlan, (family_fits r.family, (r.addr.fits, (is.asn, (is.id, (is.low, (is.high, (flag_fits r.rpki, (address_or (codes "-") r.blackhole, (is.max_comms, tt)))))))))))

pub prefix_lawful : (version : Version) (p : MemberPrefix) → p.member < 2 ^ 32 → IsLine version (prefix_line p)
prefix_lawful version p member = (member, ((p.prefix.short, p.prefix.fits, p.prefix.no_host_bits), tt))

pub origin_lawful : (version : Version) (o : MemberOrigin) → o.member < 2 ^ 32 → o.asn.0 < 2 ^ 32 → IsLine version (origin_line o)
origin_lawful version o member asn = (member, (family_fits o.family, (asn, tt)))

pub rule_lawful : (version : Version) (r : MemberRule) → r.member < 2 ^ 32 → r.place < 2 ^ 32 → IfSome r.peer (λ a. a.0 < 2 ^ 32) → IsAction r.action → IsLine version (rule_line r)
rule_lawful version r member place peer action =
    (member, (place, (way_fits r.way, (asn_or (codes "*") r.peer peer, (net_or (codes "*") r.prefix, (action_fits r.action action, tt))))))

pub bogon_lawful : (version : Version) (p : Pattern) → p.low < 2 ^ 8 → p.high < 2 ^ 8 → IsLine version (bogon_line p)
bogon_lawful version p low high = (((p.prefix.short, p.prefix.fits, p.prefix.no_host_bits), low, high), tt)

pub bogon_as_lawful : (version : Version) (r : Asn × Asn) → r.0.0 < 2 ^ 32 → r.1.0 < 2 ^ 32 → IsLine version (bogon_as_line r)
bogon_as_lawful version r first last = (first, (last, tt))

pub transit_lawful : (version : Version) (a : Asn) → a.0 < 2 ^ 32 → IsLine version (transit_line a)
transit_lawful version a asn = (asn, tt)

pub roa_lawful : (version : Version) (r : Roa) → r.max < 2 ^ 8 → r.asn.0 < 2 ^ 32 → IsLine version (roa_line r)
roa_lawful version r most asn = ((r.prefix.short, r.prefix.fits, r.prefix.no_host_bits), (most, (asn, tt)))
