-- The fields of a row's line tell the row.
use Rattle.std.proofs.Common.{◌≡◌, ℕ, zero, suc, ◌+◌, ◌/◌, ◌%◌, ◌<◌, ◌≤◌, Bool, true, false, ◌||◌, ◌==◌, List, [], ◌∷◌, ◌++◌, length, codes, decimal, Option, Some, None, Result, Ok, refl, sym, ap, ◌∙◌, subst, arith, if◌then◌else◌}
use Rattle.std.specs.Fmt.{digit_glyph, digits_onto, digits}
use Rattle.std.proofs.lemmas.Bool.{eqb-true, lt-ltb}
use Rattle.ixp_num.specs.declared.fault.NumFault.{NumFault}
use Rattle.ixp_num.specs.declared.family.Family.{Family}
use Rattle.ixp_num.specs.declared.family.Family.TheVariants.{V4, V6}
use Rattle.ixp_num.specs.declared.addr.Addr.{Addr}
use Rattle.ixp_num.specs.declared.prefix.Prefix.{Prefix}
use Rattle.ixp_num.specs.declared.pattern.Pattern.{Pattern}
use Rattle.ixp_num.specs.declared.asn.Asn.{Asn}
use Rattle.ixp_num.specs.declared.roa.Roa.{Roa}
use Rattle.ixp_num.specs.Answers.{AddrAnswer, PrefixAnswer}
use Rattle.ixp_num.specs.Printing.{addr_text, prefix_text}
use Rattle.ixp_num.proofs.OneAnswer.{one_addr, one_prefix}
use Rattle.ixp_num.proofs.PrintedAddresses.{addr_printed, prefix_printed}
use Rattle.ixp_num_tables.specs.Tables.{same}
use Rattle.ixp_registry.specs.declared.site.Site.{Site}
use Rattle.ixp_registry.specs.declared.members.Member.{Member}
use Rattle.ixp_registry.specs.declared.members.Status.{Status}
use Rattle.ixp_registry.specs.declared.members.Status.TheVariants.{Noted, Connected, Suspended, Left}
use Rattle.ixp_registry.specs.declared.members.Contact.{Contact}
use Rattle.ixp_registry.specs.declared.members.ApiKey.{ApiKey}
use Rattle.ixp_registry.specs.declared.members.Owner.{Owner}
use Rattle.ixp_registry.specs.declared.members.Owner.TheVariants.{Staff, Member as Of}
use Rattle.ixp_registry.specs.declared.network.Switch.{Switch}
use Rattle.ixp_registry.specs.declared.network.Port.{Port}
use Rattle.ixp_registry.specs.declared.network.Vlan.{Vlan}
use Rattle.ixp_registry.specs.declared.network.InterfaceRow.{InterfaceRow}
use Rattle.ixp_registry.specs.declared.network.AddressRow.{AddressRow}
use Rattle.ixp_registry.specs.declared.router.Router.{Router}
use Rattle.ixp_registry.specs.declared.lists.MemberPrefix.{MemberPrefix}
use Rattle.ixp_registry.specs.declared.lists.MemberOrigin.{MemberOrigin}
use Rattle.ixp_registry.specs.declared.rules.MemberRule.{MemberRule}
use Rattle.ixp_registry.specs.declared.rules.Way.{Way}
use Rattle.ixp_registry.specs.declared.rules.Way.TheVariants.{Advertise, Receive}
use Rattle.ixp_registry.specs.declared.rules.Action.{Action}
use Rattle.ixp_registry.specs.declared.rules.Action.TheVariants.{AsIs, Prepend, Stop}
use Rattle.ixp_rows_lines.specs.declared.version.Version.{Version}
use Rattle.ixp_rows_lines.specs.declared.version.Version.TheVariants.{One, Two}
use Rattle.ixp_rows_lines.specs.Fields.{Word, field_text, Fits}
use Rattle.ixp_rows_lines.specs.Lines.{status_word, flag_word, family_word, way_word, action_word, owner_word, actions, address_field, net_field, bounds_field, asn_field, field_or, IsOfVersion, site_line, member_line, contact_line, key_line, switch_line, port_line, vlan_line, interface_line, address_line, router_line, prefix_line, origin_line, rule_line, bogon_line, bogon_as_line, transit_line, roa_line}
use Rattle.ixp_registry.specs.Widths.{owner_number}
use Rattle.ixp_rows_lines.proofs.Spelling.{same_is}

ok_is : {A : Type 0} (a b : A) → ◌≡◌ {A = Result A NumFault} (Ok a) (Ok b) → a ≡ b
ok_is a b e = cc

-- addresses, prefixes and numbers
addr_told : (a b : Addr) → address_field a ≡ address_field b → a ≡ b
addr_told a b e =
    let text : addr_text a ≡ addr_text b = ap field_text e in
    ok_is a b (one_addr (addr_text b) (Ok a) (Ok b) (subst (λ t. AddrAnswer t (Ok a)) text (addr_printed a)) (addr_printed b))

prefix_told : (a b : Prefix) → net_field a ≡ net_field b → a ≡ b
prefix_told a b e =
    let text : prefix_text a ≡ prefix_text b = ap field_text e in
    ok_is a b (one_prefix (prefix_text b) (Ok a) (Ok b) (subst (λ t. PrefixAnswer t (Ok a)) text (prefix_printed a)) (prefix_printed b))

asn_told : (a b : Asn) → a.0 ≡ b.0 → a ≡ b
asn_told a b e = ap (λ (n : ℕ). record { 0 = n }) e

pattern_told : (a b : Pattern) → bounds_field a ≡ bounds_field b → a ≡ b
pattern_told a b e =
    let net : net_field a.prefix ≡ net_field b.prefix = cc in
    let low : a.low ≡ b.low = cc in
    let high : a.high ≡ b.high = cc in
    let prefix = prefix_told a.prefix b.prefix net in
    λ i. record { prefix = prefix i; low = low i; high = high i }

net_or_told : (word : List ℕ) (o p : Option Prefix) → field_or word net_field o ≡ field_or word net_field p → o ≡ p
net_or_told word None None e = refl
net_or_told word None (Some p) e = absurd cc
net_or_told word (Some p) None e = absurd cc
net_or_told word (Some p) (Some q) e = ap (λ x. Some x) (prefix_told p q e)

address_or_told : (word : List ℕ) (o p : Option Addr) → field_or word address_field o ≡ field_or word address_field p → o ≡ p
address_or_told word None None e = refl
address_or_told word None (Some p) e = absurd cc
address_or_told word (Some p) None e = absurd cc
address_or_told word (Some p) (Some q) e = ap (λ x. Some x) (addr_told p q e)

asn_or_told : (word : List ℕ) (o p : Option Asn) → field_or word asn_field o ≡ field_or word asn_field p → o ≡ p
asn_or_told word None None e = refl
asn_or_told word None (Some p) e = absurd cc
asn_or_told word (Some p) None e = absurd cc
asn_or_told word (Some p) (Some q) e = ap (λ x. Some x) (asn_told p q cc)

-- words
status_at : List ℕ → Status
status_at w = if same w (codes "noted") then Noted else if same w (codes "connected") then Connected else if same w (codes "suspended") then Suspended else Left

status_back : (s : Status) → status_at (status_word s) ≡ s
unfolding status_at
status_back Noted = refl
status_back Connected = refl
status_back Suspended = refl
status_back Left = refl

status_told : (s r : Status) → status_word s ≡ status_word r → s ≡ r
status_told s r e = sym (status_back s) ∙ (ap status_at e ∙ status_back r)

head_is : (a b : ℕ) (xs ys : List ℕ) → a ∷ xs ≡ b ∷ ys → a ≡ b
head_is a b xs ys e = cc

flag_told : (a b : Bool) → flag_word a ≡ flag_word b → a ≡ b
flag_told true true e = refl
flag_told true false e = absurd (let h = head_is 49 48 [] [] e in omega arith)
flag_told false true e = absurd (let h = head_is 48 49 [] [] e in omega arith)
flag_told false false e = refl

family_told : (a b : Family) → family_word a ≡ family_word b → a ≡ b
family_told V4 V4 e = refl
family_told V4 V6 e = absurd (let h = head_is 52 54 [] [] e in omega arith)
family_told V6 V4 e = absurd (let h = head_is 54 52 [] [] e in omega arith)
family_told V6 V6 e = refl

way_told : (a b : Way) → way_word a ≡ way_word b → a ≡ b
way_told Advertise Advertise e = refl
way_told Advertise Receive e = absurd cc
way_told Receive Advertise e = absurd cc
way_told Receive Receive e = refl

owner_told : (a b : Owner) → owner_word a ≡ owner_word b → owner_number a ≡ owner_number b → a ≡ b
owner_told (Staff n) (Staff m) e f = ap (λ n. Staff n) f
owner_told (Staff n) (Of m) e f = absurd cc
owner_told (Of n) (Staff m) e f = absurd cc
owner_told (Of n) (Of m) e f = ap (λ n. Of n) f

-- a number of one digit
digits_long : (k n : ℕ) (acc : List ℕ) → length acc ≤ length (digits_onto k 10 false n acc)
digits_long zero n acc = omega arith
digits_long (suc k) n acc = by_test (n / 10 == 0) (digits_long k (n / 10) (digit_glyph false (n % 10) ∷ acc))
  where
    by_test : (b : Bool) → suc (length acc) ≤ length (digits_onto k 10 false (n / 10) (digit_glyph false (n % 10) ∷ acc))
        → length acc ≤ length (if b then digit_glyph false (n % 10) ∷ acc else digits_onto k 10 false (n / 10) (digit_glyph false (n % 10) ∷ acc))
    by_test true long = omega arith
    by_test false long = omega (arith, long)

one_digit : (k n c : ℕ) → digits_onto (suc (suc k)) 10 false n [] ≡ c ∷ [] → 48 + n ≡ c
one_digit k n c e = by_test (n / 10 == 0) refl (digits_more k (n / 10) (digit_glyph false (n % 10))) e
  where
    digits_more : (k n g : ℕ) → 2 ≤ length (digits_onto (suc k) 10 false n (g ∷ []))
    digits_more k n g = by_step (n / 10 == 0) (digits_long k (n / 10) (digit_glyph false (n % 10) ∷ g ∷ []))
      where
        by_step : (b : Bool) → 2 ≤ length (digits_onto k 10 false (n / 10) (digit_glyph false (n % 10) ∷ g ∷ []))
            → 2 ≤ length (if b then digit_glyph false (n % 10) ∷ g ∷ [] else digits_onto k 10 false (n / 10) (digit_glyph false (n % 10) ∷ g ∷ []))
        by_step true long = omega arith
        by_step false long = long

    glyph_low : (d : ℕ) → d < 10 → digit_glyph false d ≡ 48 + d
    glyph_low d low = ap (λ b. if b then 48 + d else 87 + d) (lt-ltb d 10 low)

    by_test : (b : Bool) → (n / 10 == 0) ≡ b → 2 ≤ length (digits_onto (suc k) 10 false (n / 10) (digit_glyph false (n % 10) ∷ []))
        → (if b then digit_glyph false (n % 10) ∷ [] else digits_onto (suc k) 10 false (n / 10) (digit_glyph false (n % 10) ∷ [])) ≡ c ∷ [] → 48 + n ≡ c
    by_test true low long e =
        let none : n / 10 ≡ 0 = eqb-true (n / 10) 0 low in
        let digit : digit_glyph false (n % 10) ≡ c = first_is (digit_glyph false (n % 10)) c e in
        let glyph = glyph_low (n % 10) (omega arith) in
        omega (arith, none, digit, glyph)
      where
        first_is : (a b : ℕ) → a ∷ [] ≡ b ∷ [] → a ≡ b
        first_is a b e = cc
    by_test false high long e = absurd (let short = ap length e in omega (arith, long, short))

decimal_one : (n c : ℕ) → decimal n ≡ c ∷ [] → 48 + n ≡ c
unfolding digits
decimal_one n c e = one_digit 62 n c e

-- the digits of a lawful action
single : (d : List ℕ) → (same d (codes "1") || (same d (codes "2") || (same d (codes "3") || false))) ≡ true → (c : ℕ) × (d ≡ c ∷ [])
single d e = by_one (same d (codes "1")) refl e
  where
    by_three : (b : Bool) → same d (codes "3") ≡ b → (b || false) ≡ true → (c : ℕ) × (d ≡ c ∷ [])
    by_three true is e = (51, same_is d (codes "3") is)
    by_three false is e = absurd cc

    by_two : (b : Bool) → same d (codes "2") ≡ b → (b || (same d (codes "3") || false)) ≡ true → (c : ℕ) × (d ≡ c ∷ [])
    by_two true is e = (50, same_is d (codes "2") is)
    by_two false is e = by_three (same d (codes "3")) refl e

    by_one : (b : Bool) → same d (codes "1") ≡ b → (b || (same d (codes "2") || (same d (codes "3") || false))) ≡ true → (c : ℕ) × (d ≡ c ∷ [])
    by_one true is e = (49, same_is d (codes "1") is)
    by_one false is e = by_two (same d (codes "2")) refl e

digits_behind : (d e : List ℕ) → codes "prepend" ++ d ≡ codes "prepend" ++ e → d ≡ e
digits_behind d e h = cc

action_told : (a b : Action) → Fits actions (Word (action_word a)) → action_word a ≡ action_word b → a ≡ b
action_told AsIs AsIs fits e = refl
action_told AsIs (Prepend m) fits e = absurd cc
action_told AsIs Stop fits e = absurd cc
action_told (Prepend n) AsIs fits e = absurd cc
action_told (Prepend n) (Prepend m) fits e =
    let one = single (decimal n) fits in
    let same_digits = digits_behind (decimal n) (decimal m) e in
    let first = decimal_one n one.0 one.1 in
    let second = decimal_one m one.0 (sym same_digits ∙ one.1) in
    let number : n ≡ m = omega (arith, first, second) in
    ap (λ n. Prepend n) number
action_told (Prepend n) Stop fits e = absurd cc
action_told Stop AsIs fits e = absurd cc
action_told Stop (Prepend m) fits e = absurd cc
action_told Stop Stop fits e = refl

-- rows
pub site_told : (a b : Site) → (site_line a).fields ≡ (site_line b).fields → a ≡ b
site_told a b e =
    let ixp : a.ixp_id ≡ b.ixp_id = cc in
    let ixf : a.ixf_id ≡ b.ixf_id = cc in
    let name : a.shortname ≡ b.shortname = cc in
    λ i. record { ixp_id = ixp i; ixf_id = ixf i; shortname = name i }

pub member_told : (a b : Member) → (member_line a).fields ≡ (member_line b).fields → a ≡ b
member_told a b e =
    let number : a.number ≡ b.number = cc in
    let asn = asn_told a.asn b.asn cc in
    let status = status_told a.status b.status cc in
    let as_macro : a.as_macro ≡ b.as_macro = cc in
    let name : a.name ≡ b.name = cc in
    λ i. record { number = number i; asn = asn i; status = status i; as_macro = as_macro i; name = name i }

pub contact_told : (a b : Contact) → (contact_line a).fields ≡ (contact_line b).fields → a ≡ b
contact_told a b e =
    let member : a.member ≡ b.member = cc in
    let place : a.place ≡ b.place = cc in
    let role : a.role ≡ b.role = cc in
    let mail : a.mail ≡ b.mail = cc in
    let name : a.name ≡ b.name = cc in
    λ i. record { member = member i; place = place i; role = role i; mail = mail i; name = name i }

pub key_told : (a b : ApiKey) → (key_line a).fields ≡ (key_line b).fields → a ≡ b
key_told a b e =
    let number : a.number ≡ b.number = cc in
    let word : owner_word a.owner ≡ owner_word b.owner = cc in
    let holder : owner_number a.owner ≡ owner_number b.owner = cc in
    let owner = owner_told a.owner b.owner word holder in
    let secret : a.secret ≡ b.secret = cc in
    λ i. record { number = number i; owner = owner i; secret = secret i }

pub switch_told : (a b : Switch) → (switch_line a).fields ≡ (switch_line b).fields → a ≡ b
switch_told a b e =
    let number : a.number ≡ b.number = cc in
    let name : a.name ≡ b.name = cc in
    λ i. record { number = number i; name = name i }

pub port_told : (a b : Port) → (port_line a).fields ≡ (port_line b).fields → a ≡ b
port_told a b e =
    let number : a.number ≡ b.number = cc in
    let switch : a.switch ≡ b.switch = cc in
    let speed : a.speed ≡ b.speed = cc in
    let member : a.member ≡ b.member = cc in
    let name : a.name ≡ b.name = cc in
    λ i. record { number = number i; switch = switch i; speed = speed i; member = member i; name = name i }

pub vlan_told : (a b : Vlan) → (vlan_line a).fields ≡ (vlan_line b).fields → a ≡ b
vlan_told a b e =
    let number : a.number ≡ b.number = cc in
    let tag : a.tag ≡ b.tag = cc in
    let four = net_or_told (codes "-") a.v4 b.v4 cc in
    let six = net_or_told (codes "-") a.v6 b.v6 cc in
    let name : a.name ≡ b.name = cc in
    λ i. record { number = number i; tag = tag i; v4 = four i; v6 = six i; name = name i }

pub interface_told : (a b : InterfaceRow) → (interface_line a).fields ≡ (interface_line b).fields → a ≡ b
interface_told a b e =
    let number : a.number ≡ b.number = cc in
    let member : a.member ≡ b.member = cc in
    let port : a.port ≡ b.port = cc in
    let vlan : a.vlan ≡ b.vlan = cc in
    λ i. record { number = number i; member = member i; port = port i; vlan = vlan i }

pub address_told : (a b : AddressRow) → (address_line a).fields ≡ (address_line b).fields → a ≡ b
address_told a b e =
    let interface : a.interface ≡ b.interface = cc in
    let addr = addr_told a.address.addr b.address.addr cc in
    let most : a.address.max_prefix ≡ b.address.max_prefix = cc in
    let rs = flag_told a.address.rs b.address.rs cc in
    let irr = flag_told a.address.irr b.address.irr cc in
    let more = flag_told a.address.more b.address.more cc in
    let secret : a.address.secret ≡ b.address.secret = cc in
    λ i. record { interface = interface i; address = record { addr = addr i; max_prefix = most i; rs = rs i; irr = irr i; more = more i; secret = secret i } }

pub router_told : (version : Version) (a b : Router) → IsOfVersion version a → IsOfVersion version b → (router_line version a).fields ≡ (router_line version b).fields → a ≡ b
router_told One a b here there e =
    let handle : a.handle ≡ b.handle = cc in
    let vlan : a.vlan ≡ b.vlan = cc in
    let family = family_told a.family b.family cc in
    let addr = addr_told a.addr b.addr cc in
    let asn = asn_told a.asn b.asn cc in
    let id : a.id ≡ b.id = cc in
    let low : a.low ≡ b.low = cc in
    let high : a.high ≡ b.high = cc in
    let rpki = flag_told a.rpki b.rpki cc in
    let blackhole = here.0 ∙ sym there.0 in
    let most = here.1 ∙ sym there.1 in
    λ i. record { handle = handle i; vlan = vlan i; family = family i; addr = addr i; asn = asn i; id = id i; low = low i; high = high i; rpki = rpki i; blackhole = blackhole i; max_comms = most i }
router_told Two a b here there e =
    let handle : a.handle ≡ b.handle = cc in
    let vlan : a.vlan ≡ b.vlan = cc in
    let family = family_told a.family b.family cc in
    let addr = addr_told a.addr b.addr cc in
    let asn = asn_told a.asn b.asn cc in
    let id : a.id ≡ b.id = cc in
    let low : a.low ≡ b.low = cc in
    let high : a.high ≡ b.high = cc in
    let rpki = flag_told a.rpki b.rpki cc in
    let blackhole = address_or_told (codes "-") a.blackhole b.blackhole cc in
    let most : a.max_comms ≡ b.max_comms = cc in
    λ i. record { handle = handle i; vlan = vlan i; family = family i; addr = addr i; asn = asn i; id = id i; low = low i; high = high i; rpki = rpki i; blackhole = blackhole i; max_comms = most i }

pub prefix_row_told : (a b : MemberPrefix) → (prefix_line a).fields ≡ (prefix_line b).fields → a ≡ b
prefix_row_told a b e =
    let member : a.member ≡ b.member = cc in
    let prefix = prefix_told a.prefix b.prefix cc in
    λ i. record { member = member i; prefix = prefix i }

pub origin_told : (a b : MemberOrigin) → (origin_line a).fields ≡ (origin_line b).fields → a ≡ b
origin_told a b e =
    let member : a.member ≡ b.member = cc in
    let family = family_told a.family b.family cc in
    let asn = asn_told a.asn b.asn cc in
    λ i. record { member = member i; family = family i; asn = asn i }

pub rule_told : (a b : MemberRule) → Fits actions (Word (action_word a.action)) → (rule_line a).fields ≡ (rule_line b).fields → a ≡ b
rule_told a b fits e =
    let member : a.member ≡ b.member = cc in
    let place : a.place ≡ b.place = cc in
    let way = way_told a.way b.way cc in
    let peer = asn_or_told (codes "*") a.peer b.peer cc in
    let prefix = net_or_told (codes "*") a.prefix b.prefix cc in
    let action = action_told a.action b.action fits cc in
    λ i. record { member = member i; place = place i; way = way i; peer = peer i; prefix = prefix i; action = action i }

pub bogon_told : (a b : Pattern) → (bogon_line a).fields ≡ (bogon_line b).fields → a ≡ b
bogon_told a b e = pattern_told a b cc

pub bogon_as_told : (a b : Asn × Asn) → (bogon_as_line a).fields ≡ (bogon_as_line b).fields → a ≡ b
bogon_as_told a b e =
    let first = asn_told a.0 b.0 cc in
    let last = asn_told a.1 b.1 cc in
    λ i. (first i, last i)

pub transit_told : (a b : Asn) → (transit_line a).fields ≡ (transit_line b).fields → a ≡ b
transit_told a b e = asn_told a b cc

pub roa_told : (a b : Roa) → (roa_line a).fields ≡ (roa_line b).fields → a ≡ b
roa_told a b e =
    let prefix = prefix_told a.prefix b.prefix cc in
    let most : a.max ≡ b.max = cc in
    let asn = asn_told a.asn b.asn cc in
    λ i. record { prefix = prefix i; max = most i; asn = asn i }
