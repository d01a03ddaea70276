-- What filters compute with values, and what they read and change of a route (BIRD 2 User's Guide, chapter
-- "Filters": data types, operators, route attributes). Values of kinds that no text brings together compare
-- as false, and change nothing.
use Rattle.std.specs.Prelude.{ℕ, Bool, true, false, not, ◌&&◌, ◌==◌, nat_le, nat_lt, min, List, [], ◌∷◌, ◌++◌, length, map, filter, reverse, Option, Some, None, if◌then◌else◌}
use Rattle.std.specs.List.{list_any}
use Rattle.ixp_num.specs.declared.addr.Addr.{Addr}
use Rattle.ixp_num.specs.declared.asn.Asn.{Asn}
use Rattle.ixp_num.specs.declared.prefix.Prefix.{Prefix}
use Rattle.ixp_num.specs.declared.roa.Roa.{Roa}
use Rattle.ixp_num.specs.declared.roa.Validity.{Validity}
use Rattle.ixp_num.specs.declared.roa.Validity.TheVariants.{Valid, Invalid, Unknown}
use Rattle.ixp_num.specs.Prefixes.{same_addr, same_prefix, is_in_set}
use Rattle.ixp_num.specs.Roas.{validity}
use Rattle.ixp_lang.specs.declared.route.Route.{Route}
use Rattle.ixp_lang.specs.declared.value.Value.{Value}
use Rattle.ixp_lang.specs.declared.value.Value.TheVariants as value
use Rattle.ixp_lang.specs.declared.value.SetLit.TheVariants as set
use Rattle.ixp_lang.specs.declared.expr.Attr.{Attr}
use Rattle.ixp_lang.specs.declared.expr.Attr.TheVariants as attr
use Rattle.ixp_lang.specs.declared.expr.Op.{Op}
use Rattle.ixp_lang.specs.declared.expr.Op.TheVariants as op
use Rattle.ixp_lang.specs.declared.stmt.Label.{Label}
use Rattle.ixp_lang.specs.declared.stmt.Label.TheVariants.{Range, State}

-- Equality.

abbrev pub same_bool : Bool → Bool → Bool
same_bool true b = b
same_bool false b = not b

abbrev pub same_state : Validity → Validity → Bool
same_state Valid Valid = true
same_state Invalid Invalid = true
same_state Unknown Unknown = true
same_state _ _ = false

abbrev pub is_equal : Value → Value → Bool
is_equal (value.Int m) (value.Int n) = m == n
is_equal (value.Bool a) (value.Bool b) = same_bool a b
is_equal (value.Ip a) (value.Ip b) = same_addr a b
is_equal (value.Net p) (value.Net q) = same_prefix p q
is_equal (value.Pair a b) (value.Pair c d) = a == c && b == d
is_equal (value.Triple a b c) (value.Triple d e f) = a == d && b == e && c == f
is_equal (value.Roa s) (value.Roa t) = same_state s t
is_equal _ _ = false

-- Sets.

-- the number lies in the range; one whose first number is the greater has none
abbrev pub in_range : ℕ → ℕ × ℕ → Bool
in_range n r = nat_le r.0 n && nat_le n r.1

abbrev pub in_ranges : ℕ → List (ℕ × ℕ) → Bool
in_ranges n rs = list_any (λ r. in_range n r) rs

-- a part fits the number, or `*`
abbrev pub fits_part : ℕ → Option ℕ → Bool
fits_part n None = true
fits_part n (Some m) = n == m

abbrev pub in_pairs : ℕ × ℕ → List (ℕ × Option ℕ) → Bool
in_pairs p qs = list_any (λ q. p.0 == q.0 && fits_part p.1 q.1) qs

abbrev pub in_triples : ℕ × ℕ × ℕ → List (ℕ × ℕ × Option ℕ) → Bool
in_triples t us = list_any (λ u. t.0 == u.0 && t.1 == u.1 && fits_part t.2 u.2) us

-- an item of a list of communities, as it stands in the list's value
abbrev pub pair_in : ℕ × Option ℕ → List (ℕ × Option ℕ) → Bool
pair_in (a, Some b) qs = in_pairs (a, b) qs
pair_in (a, None) qs = false

abbrev pub triple_in : ℕ × ℕ × Option ℕ → List (ℕ × ℕ × Option ℕ) → Bool
triple_in (a, b, Some c) us = in_triples (a, b, c) us
triple_in (a, b, None) us = false

-- `~`: an item is in the set; a list of the route's has an item in the set
abbrev pub is_in : Value → Value → Bool
is_in (value.Int n) (value.Set (set.Ints rs)) = in_ranges n rs
is_in (value.Ip a) (value.Set (set.Ips bs)) = list_any (λ b. same_addr a b) bs
is_in (value.Net p) (value.Set (set.Prefixes ts)) = is_in_set ts p
is_in (value.Pair a b) (value.Set (set.Pairs ps)) = in_pairs (a, b) ps
is_in (value.Triple a b c) (value.Set (set.Triples ts)) = in_triples (a, b, c) ts
is_in (value.Set (set.Ints ns)) (value.Set (set.Ints rs)) = list_any (λ n. in_ranges n.0 rs) ns
is_in (value.Set (set.Pairs ps)) (value.Set (set.Pairs qs)) = list_any (λ p. pair_in p qs) ps
is_in (value.Set (set.Triples ts)) (value.Set (set.Triples us)) = list_any (λ t. triple_in t us) ts
is_in _ _ = false

-- Comparisons.

abbrev pub is_less : Value → Value → Bool
is_less (value.Int m) (value.Int n) = nat_lt m n
is_less _ _ = false

abbrev pub is_at_most : Value → Value → Bool
is_at_most (value.Int m) (value.Int n) = nat_le m n
is_at_most _ _ = false

abbrev pub compares : Op → Value → Value → Bool
compares op.Eq v w = is_equal v w
compares op.Ne v w = not (is_equal v w)
compares op.Lt v w = is_less v w
compares op.Le v w = is_at_most v w
compares op.Gt v w = is_less w v
compares op.Ge v w = is_at_most w v
compares op.In v w = is_in v w
compares op.NotIn v w = not (is_in v w)

-- the value of a test
abbrev pub truth : Value → Bool
truth (value.Bool b) = b
truth _ = false

-- the number of a part of a pair or triple
abbrev pub number : Value → ℕ
number (value.Int n) = n
number _ = 0

-- the label has the value
abbrev pub fits_label : Value → Label → Bool
fits_label (value.Int n) (Range low high) = in_range n (low, high)
fits_label (value.Roa s) (State t) = same_state s t
fits_label _ _ = false

abbrev pub has_label : List Label → Value → Bool
has_label ls v = list_any (λ l. fits_label v l) ls

-- Attributes of a route.

-- the path's latest AS, 0 where it is empty
abbrev pub first_of : List Asn → ℕ
first_of [] = 0
first_of (a ∷ rest) = a.0

-- the origin, 0 where the path is empty
abbrev pub last_of : List Asn → ℕ
last_of path = first_of (reverse path)

-- a number of the language is at most 4294967295
abbrev pub count : ℕ → ℕ
count n = min n 4294967295

-- the list of a route's numbers or communities, as `~` sees it
abbrev pub path_value : List Asn → Value
path_value path = value.Set (set.Ints (map (λ a. (a.0, a.0)) path))

abbrev pub pairs_value : List (ℕ × ℕ) → Value
pairs_value pairs = value.Set (set.Pairs (map (λ p. (p.0, Some p.1)) pairs))

abbrev pub triples_value : List (ℕ × ℕ × ℕ) → Value
triples_value triples = value.Set (set.Triples (map (λ t. (t.0, t.1, Some t.2)) triples))

-- the value of an attribute; the session's neighbour is at the address
abbrev pub attribute_of : Addr → Attr → Route → Value
attribute_of from attr.Net r = value.Net r.net
attribute_of from attr.NetLen r = value.Int r.net.len
attribute_of from attr.From r = value.Ip from
attribute_of from attr.NextHop r = value.Ip r.next_hop
attribute_of from attr.Path r = path_value r.path
attribute_of from attr.First r = value.Int (first_of r.path)
attribute_of from attr.Last r = value.Int (last_of r.path)
attribute_of from attr.Len r = value.Int (count (length r.path))
attribute_of from attr.Pairs r = pairs_value r.pairs
attribute_of from attr.PairsLen r = value.Int (count (length r.pairs))
attribute_of from attr.Triples r = triples_value r.triples
attribute_of from attr.TriplesLen r = value.Int (count (length r.triples))

-- `roa_check` over a table's ROAs (RFC 6811 section 2)
abbrev pub checked : List Roa → Value → Value → Value
checked roas (value.Net p) (value.Int n) = value.Roa (validity roas p n)
checked roas _ _ = value.Roa Unknown

-- Changes of a route.

abbrev pub with_next_hop : Value → Route → Route
with_next_hop (value.Ip a) r = record r { next_hop = a }
with_next_hop _ r = r

-- the number in front of the path
abbrev pub prepended : Value → Route → Route
prepended (value.Int n) r = record r { path = record { 0 = n } ∷ r.path }
prepended _ r = r

-- the community at the end, where it isn't there
abbrev pub with_pair : Value → Route → Route
with_pair (value.Pair a b) r =
    if list_any (λ p. p.0 == a && p.1 == b) r.pairs then r else record r { pairs = r.pairs ++ (a, b) ∷ [] }
with_pair _ r = r

abbrev pub with_triple : Value → Route → Route
with_triple (value.Triple a b c) r =
    if list_any (λ t. t.0 == a && t.1 == b && t.2 == c) r.triples then r
    else record r { triples = r.triples ++ (a, b, c) ∷ [] }
with_triple _ r = r

-- without each community that is in the set
abbrev pub without_pairs : Value → Route → Route
without_pairs (value.Set (set.Pairs qs)) r = record r { pairs = filter (λ p. not (in_pairs p qs)) r.pairs }
without_pairs _ r = r

abbrev pub without_triples : Value → Route → Route
without_triples (value.Set (set.Triples us)) r =
    record r { triples = filter (λ t. not (in_triples t us)) r.triples }
without_triples _ r = r
