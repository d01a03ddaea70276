-- What rows may say, one by one: words that the rules over rows and the facts of a valid registry share.
use Rattle.std.specs.Prelude.{ℕ, Bool, List, [], ◌∷◌, ◌&&◌, ◌||◌, ◌==◌, true, false, nat_le, Option, if◌then◌else◌}
use Rattle.std.specs.List.{list_any, list_all}
use Rattle.std.specs.Option.{is_some}
use Rattle.ixp_num.specs.AddressForms.{version_of}
use Rattle.ixp_num.specs.declared.family.Family.{Family}
use Rattle.ixp_num.specs.declared.family.Family.TheVariants.{V4, V6}
use Rattle.ixp_num.specs.declared.addr.Addr.{Addr}
use Rattle.ixp_num.specs.declared.prefix.Prefix.{Prefix}
use Rattle.ixp_num.specs.declared.pattern.Pattern.{Pattern}
use Rattle.ixp_num.specs.declared.roa.Roa.{Roa}
use Rattle.ixp_num.specs.declared.asn.Asn.{Asn}
use Rattle.ixp_num.specs.Families.{bits_of, same_family}
use Rattle.ixp_num_tables.specs.Tables.{if_there}
use Rattle.ixp_registry.specs.declared.members.Owner.{Owner}
use Rattle.ixp_registry.specs.declared.members.Owner.TheVariants.{Staff, Member as Of}
use Rattle.ixp_registry.specs.declared.router.Router.{Router}
use Rattle.ixp_registry.specs.declared.rules.MemberRule.{MemberRule}
use Rattle.ixp_registry.specs.declared.rules.Way.{Way}
use Rattle.ixp_registry.specs.declared.rules.Way.TheVariants.{Advertise, Receive}
use Rattle.ixp_registry.specs.declared.rules.Action.{Action}
use Rattle.ixp_registry.specs.declared.rules.Action.TheVariants.{AsIs, Prepend, Stop}
use Rattle.ixp_registry.specs.Lookups.{listed, overlap}

-- a reserved AS number: 0 (RFC 7607), AS_TRANS (RFC 6793), or the last one (RFC 7300)
abbrev pub is_reserved : ℕ → Bool
is_reserved asn = asn == 0 || asn == 23456 || asn == 4294967295

-- a length that a VLAN's prefix may have: 8 to 30 in IPv4, 32 to 126 in IPv6
abbrev pub is_vlan_length : Prefix → Bool
is_vlan_length p = nat_le (least p.family) p.len && nat_le p.len (most p.family)
  where
    least : Family → ℕ
    least V4 = 8
    least V6 = 32

    most : Family → ℕ
    most V4 = 30
    most V6 = 126

abbrev pub overlaps_any : List Prefix → Prefix → Bool
overlaps_any ps q = list_any (λ p. overlap p q) ps

-- the prefix, if there is one, is of the family
abbrev pub is_of : Family → Option Prefix → Bool
is_of family prefix = list_all (λ p. same_family p.family family) (listed prefix)

-- the numbers of an address
abbrev pub addr_numbers : Addr → List ℕ
addr_numbers a = version_of a.family ∷ a.value ∷ []

abbrev pub owner_numbers : Owner → List ℕ
owner_numbers (Staff n) = 0 ∷ n ∷ []
owner_numbers (Of n) = 1 ∷ n ∷ []

-- staff owners are numbered 1 to 16
abbrev pub is_staff_number : Owner → Bool
is_staff_number (Staff n) = nat_le 1 n && nat_le n 16
is_staff_number (Of n) = true

-- an action that a rule of the way may have
abbrev pub is_action_of : Way → Action → Bool
is_action_of way AsIs = true
is_action_of way Stop = true
is_action_of Advertise (Prepend n) = nat_le 1 n && nat_le n 3
is_action_of Receive (Prepend n) = false

-- the rule's action is one of its way, and its peer is any or at least 1
abbrev pub is_lawful : MemberRule → Bool
is_lawful x = is_action_of x.way x.action && if_there x.peer true (λ p. nat_le 1 p.0)

-- a router's bounds are lengths of its family, the low one not above the high one
abbrev pub has_bounds : Router → Bool
has_bounds q = nat_le q.low q.high && nat_le q.high (bits_of q.family)

-- the bounds of a pattern, a range of AS numbers and a ROA ascend, within the family
abbrev pub pattern_has_bounds : Pattern → Bool
pattern_has_bounds b = nat_le b.low b.high && nat_le b.high (bits_of b.prefix.family)

abbrev pub range_ascends : Asn × Asn → Bool
range_ascends r = nat_le r.0.0 r.1.0

abbrev pub roa_has_bounds : Roa → Bool
roa_has_bounds r = nat_le r.prefix.len r.max && nat_le r.max (bits_of r.prefix.family)

-- a list counts twice in a session with a router that has a blackhole address
abbrev pub router_weight : Router → ℕ
router_weight r = if is_some r.blackhole then 2 else 1
