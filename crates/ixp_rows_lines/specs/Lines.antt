-- The lines of a dump: for each kind of row its word, its fields, and how many of them are its key.
use Rattle.std.specs.Prelude.{◌≡◌, ℕ, ◌⊎◌, List, [], ◌∷◌, ◌++◌, flat_map, take, codes, decimal, Bool, true, false, Option, Some, None, if◌then◌else◌, refl}
use Rattle.ixp_num.specs.declared.family.Family.{Family}
use Rattle.ixp_num.specs.declared.family.Family.TheVariants.{V4, V6}
use Rattle.ixp_num.specs.declared.addr.Addr.{Addr}
use Rattle.ixp_num.specs.declared.prefix.Prefix.{Prefix}
use Rattle.ixp_num.specs.declared.pattern.Pattern.{Pattern}
use Rattle.ixp_num.specs.declared.asn.Asn.{Asn}
use Rattle.ixp_num.specs.declared.roa.Roa.{Roa}
use Rattle.ixp_registry.specs.declared.site.Site.{Site}
use Rattle.ixp_registry.specs.declared.members.Member.{Member}
use Rattle.ixp_registry.specs.declared.members.Status.{Status}
use Rattle.ixp_registry.specs.declared.members.Status.TheVariants.{Noted, Connected, Suspended, Left}
use Rattle.ixp_registry.specs.declared.members.Contact.{Contact}
use Rattle.ixp_registry.specs.declared.members.ApiKey.{ApiKey}
use Rattle.ixp_registry.specs.declared.members.Owner.{Owner}
use Rattle.ixp_registry.specs.declared.members.Owner.TheVariants.{Staff, Member as Of}
use Rattle.ixp_registry.specs.declared.network.Switch.{Switch}
use Rattle.ixp_registry.specs.declared.network.Port.{Port}
use Rattle.ixp_registry.specs.declared.network.Vlan.{Vlan}
use Rattle.ixp_registry.specs.declared.network.InterfaceRow.{InterfaceRow}
use Rattle.ixp_registry.specs.declared.network.AddressRow.{AddressRow}
use Rattle.ixp_registry.specs.declared.router.Router.{Router}
use Rattle.ixp_registry.specs.declared.lists.MemberPrefix.{MemberPrefix}
use Rattle.ixp_registry.specs.declared.lists.MemberOrigin.{MemberOrigin}
use Rattle.ixp_registry.specs.declared.rules.MemberRule.{MemberRule}
use Rattle.ixp_registry.specs.declared.rules.Way.{Way}
use Rattle.ixp_registry.specs.declared.rules.Way.TheVariants.{Advertise, Receive}
use Rattle.ixp_registry.specs.declared.rules.Action.{Action}
use Rattle.ixp_registry.specs.declared.rules.Action.TheVariants.{AsIs, Prepend, Stop}
use Rattle.ixp_num.specs.AddressForms.{version_of}
use Rattle.ixp_num_tables.specs.Tables.{same}
use Rattle.ixp_registry.specs.Kinds.{word_of}
use Rattle.ixp_registry.specs.Widths.{owner_number}
use Rattle.ixp_registry.specs.declared.kind.Kind.{Kind}
use Rattle.ixp_registry.specs.declared.kind.Kind.TheVariants.{Sites, Members, Contacts, Keys, Switches, Ports, Vlans, Interfaces, Addresses, Routers, Prefixes, Origins, Rules, Bogons, BogonAs, Transit, Roas}
use Rattle.ixp_rows_lines.specs.declared.version.Version.{Version}
use Rattle.ixp_rows_lines.specs.declared.version.Version.TheVariants.{One, Two}
use Rattle.ixp_rows_lines.specs.Fields.{Field, Number, Octet, Word, Free, Secret, Handle, Address, Net, Bounds, field_text, Piece, ANumber, AnOctet, OneOf, AFree, ASecret, AHandle, AnAddress, AnIdentifier, ANet, ABounds, Or, Fits, AllFit}

-- Words
abbrev pub status_word : Status → List ℕ
status_word Noted = codes "noted"
status_word Connected = codes "connected"
status_word Suspended = codes "suspended"
status_word Left = codes "left"

abbrev pub flag_word : Bool → List ℕ
flag_word false = codes "0"
flag_word true = codes "1"

abbrev pub family_word : Family → List ℕ
family_word V4 = codes "4"
family_word V6 = codes "6"

abbrev pub way_word : Way → List ℕ
way_word Advertise = codes "advertise"
way_word Receive = codes "receive"

abbrev pub action_word : Action → List ℕ
action_word AsIs = codes "as-is"
action_word (Prepend n) = codes "prepend" ++ decimal n
action_word Stop = codes "stop"

abbrev pub flags : Piece
flags = OneOf (codes "0" ∷ codes "1" ∷ [])

abbrev pub families : Piece
families = OneOf (codes "4" ∷ codes "6" ∷ [])

abbrev pub statuses : Piece
statuses = OneOf (codes "noted" ∷ codes "connected" ∷ codes "suspended" ∷ codes "left" ∷ [])

abbrev pub owner_kinds : Piece
owner_kinds = OneOf (codes "staff" ∷ codes "member" ∷ [])

abbrev pub ways : Piece
ways = OneOf (codes "advertise" ∷ codes "receive" ∷ [])

abbrev pub actions : Piece
actions = OneOf (codes "as-is" ∷ codes "prepend1" ∷ codes "prepend2" ∷ codes "prepend3" ∷ codes "stop" ∷ [])

-- Fields
abbrev pub address_field : Addr → Field
address_field a = Address a.family a.value

abbrev pub net_field : Prefix → Field
net_field p = Net p.family p.value p.len

abbrev pub bounds_field : Pattern → Field
bounds_field p = Bounds p.prefix.family p.prefix.value p.prefix.len p.low p.high

-- none, as this word, or what is there
abbrev pub field_or : {A : Type 0} → List ℕ → (A → Field) → Option A → Field
field_or word field None = Word word
field_or word field (Some x) = field x

abbrev pub asn_field : Asn → Field
asn_field a = Number a.0

abbrev pub owner_word : Owner → List ℕ
owner_word (Staff n) = codes "staff"
owner_word (Of n) = codes "member"

-- A line: which kind of row it is of, and its fields.
pub record Line : Type 0 where
  pub kind : Kind
  pub fields : List Field

abbrev pub site_line : Site → Line
site_line s = record { kind = Sites; fields = Number s.ixp_id ∷ Number s.ixf_id ∷ Free s.shortname ∷ [] }

abbrev pub member_line : Member → Line
member_line m = record {
  kind = Members;
  fields = Number m.number ∷ Number m.asn.0 ∷ Word (status_word m.status) ∷ Free m.as_macro ∷ Free m.name
      ∷ [];
}

abbrev pub contact_line : Contact → Line
contact_line c = record {
  kind = Contacts;
  fields = Number c.member ∷ Number c.place ∷ Free c.role ∷ Free c.mail ∷ Free c.name ∷ [];
}

abbrev pub key_line : ApiKey → Line
key_line k = record {
  kind = Keys;
  fields = Number k.number ∷ Word (owner_word k.owner) ∷ Number (owner_number k.owner) ∷ Secret k.secret ∷ [];
}

abbrev pub switch_line : Switch → Line
switch_line s = record { kind = Switches; fields = Number s.number ∷ Free s.name ∷ [] }

abbrev pub port_line : Port → Line
port_line p = record {
  kind = Ports;
  fields = Number p.number ∷ Number p.switch ∷ Number p.speed ∷ Number p.member ∷ Free p.name ∷ [];
}

abbrev pub vlan_line : Vlan → Line
vlan_line v = record {
  kind = Vlans;
  fields = Number v.number ∷ Number v.tag ∷ field_or (codes "-") net_field v.v4
      ∷ field_or (codes "-") net_field v.v6 ∷ Free v.name ∷ [];
}

abbrev pub interface_line : InterfaceRow → Line
interface_line i = record {
  kind = Interfaces;
  fields = Number i.number ∷ Number i.member ∷ Number i.port ∷ Number i.vlan ∷ [];
}

abbrev pub address_line : AddressRow → Line
address_line a = record {
  kind = Addresses;
  fields = Number a.interface ∷ address_field a.address.addr ∷ Number a.address.max_prefix
      ∷ Word (flag_word a.address.rs)
      ∷ Word (flag_word a.address.irr) ∷ Word (flag_word a.address.more) ∷ Secret a.address.secret ∷ [];
}

abbrev pub router_fields : Router → List Field
router_fields r =
    Handle r.handle ∷ Number r.vlan ∷ Word (family_word r.family) ∷ address_field r.addr ∷ Number r.asn.0
    ∷ Address V4 r.id ∷ Number r.low
    ∷ Number r.high ∷ Word (flag_word r.rpki) ∷ []

abbrev pub router_line : Version → Router → Line
router_line One r = record { kind = Routers; fields = router_fields r }
router_line Two r = record {
  kind = Routers;
  fields = router_fields r ++ field_or (codes "-") address_field r.blackhole ∷ Number r.max_comms ∷ [];
}

-- a router of the first version has no blackhole address and no bound on communities
abbrev pub IsOfVersion : Version → Router → Type 0
IsOfVersion One r = (r.blackhole ≡ None) × (r.max_comms ≡ 0)
IsOfVersion Two r = Unit {0}

-- an action that has a word
abbrev pub IsAction : Action → Type 0
IsAction AsIs = Unit {0}
IsAction (Prepend n) = (n ≡ 1) ⊎ (n ≡ 2) ⊎ (n ≡ 3)
IsAction Stop = Unit {0}

-- bytes that can stand as a secret
abbrev pub IsSecret : List ℕ → Type 0
IsSecret t = Fits ASecret (Secret t)

abbrev pub prefix_line : MemberPrefix → Line
prefix_line p = record { kind = Prefixes; fields = Number p.member ∷ net_field p.prefix ∷ [] }

abbrev pub origin_line : MemberOrigin → Line
origin_line o = record {
  kind = Origins;
  fields = Number o.member ∷ Word (family_word o.family) ∷ Number o.asn.0 ∷ [];
}

abbrev pub rule_line : MemberRule → Line
rule_line r = record {
  kind = Rules;
  fields = Number r.member ∷ Number r.place ∷ Word (way_word r.way) ∷ field_or (codes "*") asn_field r.peer
      ∷ field_or (codes "*") net_field r.prefix ∷ Word (action_word r.action) ∷ [];
}

abbrev pub bogon_line : Pattern → Line
bogon_line p = record { kind = Bogons; fields = bounds_field p ∷ [] }

abbrev pub bogon_as_line : Asn × Asn → Line
bogon_as_line r = record { kind = BogonAs; fields = Number r.0.0 ∷ Number r.1.0 ∷ [] }

abbrev pub transit_line : Asn → Line
transit_line a = record { kind = Transit; fields = Number a.0 ∷ [] }

abbrev pub roa_line : Roa → Line
roa_line r = record { kind = Roas; fields = net_field r.prefix ∷ Octet r.max ∷ Number r.asn.0 ∷ [] }

-- kinds in the order of their lines
abbrev pub place_of : Kind → ℕ
place_of Sites = 1
place_of Members = 2
place_of Contacts = 3
place_of Keys = 4
place_of Switches = 5
place_of Ports = 6
place_of Vlans = 7
place_of Interfaces = 8
place_of Addresses = 9
place_of Routers = 10
place_of Prefixes = 11
place_of Origins = 12
place_of Rules = 13
place_of Bogons = 14
place_of BogonAs = 15
place_of Transit = 16
place_of Roas = 17

abbrev pub router_form : Version → List Piece
router_form One = AHandle ∷ ANumber ∷ families ∷ AnAddress ∷ ANumber ∷ AnIdentifier ∷ ANumber ∷ ANumber
    ∷ flags ∷ []
router_form Two =
    AHandle ∷ ANumber ∷ families ∷ AnAddress ∷ ANumber ∷ AnIdentifier ∷ ANumber ∷ ANumber ∷ flags
    ∷ Or (codes "-") AnAddress ∷ ANumber ∷ []

-- what the fields of a line of the kind may be
abbrev pub form_of : Version → Kind → List Piece
form_of version Sites = ANumber ∷ ANumber ∷ AFree ∷ []
form_of version Members = ANumber ∷ ANumber ∷ statuses ∷ AFree ∷ AFree ∷ []
form_of version Contacts = ANumber ∷ ANumber ∷ AFree ∷ AFree ∷ AFree ∷ []
form_of version Keys = ANumber ∷ owner_kinds ∷ ANumber ∷ ASecret ∷ []
form_of version Switches = ANumber ∷ AFree ∷ []
form_of version Ports = ANumber ∷ ANumber ∷ ANumber ∷ ANumber ∷ AFree ∷ []
form_of version Vlans = ANumber ∷ ANumber ∷ Or (codes "-") ANet ∷ Or (codes "-") ANet ∷ AFree ∷ []
form_of version Interfaces = ANumber ∷ ANumber ∷ ANumber ∷ ANumber ∷ []
form_of version Addresses = ANumber ∷ AnAddress ∷ ANumber ∷ flags ∷ flags ∷ flags ∷ ASecret ∷ []
form_of version Routers = router_form version
form_of version Prefixes = ANumber ∷ ANet ∷ []
form_of version Origins = ANumber ∷ families ∷ ANumber ∷ []
form_of version Rules =
    ANumber ∷ ANumber ∷ ways ∷ Or (codes "*") ANumber ∷ Or (codes "*") ANet ∷ actions ∷ []
form_of version Bogons = ABounds ∷ []
form_of version BogonAs = ANumber ∷ ANumber ∷ []
form_of version Transit = ANumber ∷ []
form_of version Roas = ANet ∷ AnOctet ∷ ANumber ∷ []

-- a line of the format
abbrev pub IsLine : Version → Line → Type 0
IsLine version line = AllFit (form_of version line.kind) line.fields

-- its text: the word, a blank before each field, and the line's end
abbrev pub spelled : List Field → List ℕ
spelled fields = flat_map (λ field. 32 ∷ field_text field) fields ++ 10 ∷ []

abbrev pub text_of : Kind → List Field → List ℕ
text_of kind fields = word_of kind ++ spelled fields

abbrev pub line_text : Line → List ℕ
line_text line = text_of line.kind line.fields

-- how many of its fields are its key
abbrev pub key_length : Kind → ℕ
key_length Sites = 0
key_length Members = 1
key_length Contacts = 2
key_length Keys = 1
key_length Switches = 1
key_length Ports = 1
key_length Vlans = 1
key_length Interfaces = 1
key_length Addresses = 2
key_length Routers = 1
key_length Prefixes = 2
key_length Origins = 3
key_length Rules = 2
key_length Bogons = 1
key_length BogonAs = 2
key_length Transit = 1
key_length Roas = 3

-- the key's numbers: of an address its family alone, since an interface has one of each
abbrev pub version_word : List ℕ → ℕ
version_word word = if same word (codes "4") then 4 else 6

pub version_again : (family : Family) → version_word (family_word family) ≡ version_of family
version_again V4 = refl
version_again V6 = refl

abbrev pub field_key : Field → List ℕ
field_key (Number n) = n ∷ []
field_key (Octet n) = n ∷ []
field_key (Word word) = version_word word ∷ []
field_key (Free t) = t
field_key (Secret t) = t
field_key (Handle t) = t
field_key (Address family value) = version_of family ∷ []
field_key (Net family value len) = version_of family ∷ value ∷ len ∷ []
field_key (Bounds family value len low high) = version_of family ∷ value ∷ len ∷ low ∷ high ∷ []

-- lines ascend by kind, and within a kind by key
abbrev pub key_of : Line → List ℕ
key_of line = place_of line.kind ∷ flat_map field_key (take (key_length line.kind) line.fields)
