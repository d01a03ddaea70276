-- A route that is asked about in a body, and the peers that it may be sent to.
use Rattle.std.specs.Prelude.{◌≡◌, ℕ, suc, ◌+◌, List, [], ◌∷◌, nat_le, Option, Some, None, Result, Ok, Err, option_map, option_and_then, if◌then◌else◌}
use Rattle.serde_json.specs.Data.{Data, Items, no_items, item}
use Rattle.serde_json.specs.Find.{as_str, as_array}
use Rattle.ixp_num.specs.declared.addr.Addr.{Addr}
use Rattle.ixp_num.specs.declared.asn.Asn.{Asn}
use Rattle.ixp_num.specs.declared.prefix.Prefix.{Prefix}
use Rattle.ixp_num.specs.Families.{same_family}
use Rattle.ixp_lang.specs.RouteReading.{pair_item, triple_item}
use Rattle.ixp_api_json.specs.declared.field.Field.{Field}
use Rattle.ixp_api_json.specs.declared.field.Field.TheVariants as field
use Rattle.ixp_api_json.specs.declared.pointer.CallFault.{CallFault}
use Rattle.ixp_api_json.specs.declared.pointer.CallFault.TheVariants.{BadBody}
use Rattle.ixp_api_json.specs.declared.pointer.Pointer.TheVariants.{At, Item}
use Rattle.ixp_api_bodies.specs.declared.asked.RouteAsked.{RouteAsked}
use Rattle.ixp_api_bodies.specs.Answers.{must, read_then, ThenSays}
use Rattle.ixp_api_bodies.specs.Values.{field as value_at, number_at, object_of, AddressIn, PrefixIn}

-- ---- items

abbrev pub asn_at : Data → Option Asn
asn_at d = option_map (λ n. record { 0 = n }) (number_at d)

-- what stands at the front of a text, where nothing is behind it
abbrev pub whole : {A : Type 0} → Result (A × List ℕ) ℕ → Option A
whole (Ok (x, [])) = Some x
whole (Ok (x, c ∷ cs)) = None
whole (Err left) = None

-- a community `a:b` (RFC 1997), a large community `a:b:c` (RFC 8092)
abbrev pub pair_at : Data → Option (ℕ × ℕ)
pair_at d = option_and_then (λ t. whole (pair_item t)) (as_str d)

abbrev pub triple_at : Data → Option (ℕ × ℕ × ℕ)
triple_at d = option_and_then (λ t. whole (triple_item t)) (as_str d)

-- ---- lists

-- the items of a list, or the fault of the first that is none, at its place from 0
abbrev pub items_from : {A : Type 0} → (Data → Option A) → Field → ℕ → Items → Result (List A) CallFault
items_from at f place no_items = Ok []
items_from at f place (item d ds) = read_then (must (Item f place) (at d))
    (λ x. read_then (items_from at f (place + 1) ds) (λ xs. Ok (x ∷ xs)))

abbrev pub count : Items → ℕ
count no_items = 0
count (item d ds) = suc (count ds)

-- a list of at most so many items, which is tested before them
abbrev pub list_upto : {A : Type 0} → (Data → Option A) → ℕ → Field → Items → Result (List A) CallFault
list_upto at most f ds = if nat_le (count ds) most then items_from at f 0 ds else Err (BadBody (At f))

abbrev pub list_by : {A : Type 0} → (Data → Option A) → ℕ → Field → Option Items → Result (List A) CallFault
list_by at most f None = Err (BadBody (At f))
list_by at most f (Some ds) = list_upto at most f ds

abbrev pub list_in : {A : Type 0} → (Data → Option A) → ℕ → Field → Data → Result (List A) CallFault
list_in at most f d = list_by at most f (option_and_then as_array (value_at f d))

-- the peers, none where nothing is said of them
abbrev pub peers_by : Option Data → Result (List Asn) CallFault
peers_by None = Ok []
peers_by (Some v) = list_by asn_at 64 field.Peers (as_array v)

-- ---- routes

-- the address, where it is of the net's family
abbrev pub of_family : Prefix → Option Addr → Option Addr
of_family net None = None
of_family net (Some a) = if same_family net.family a.family then Some a else None

-- A route and the peers, with this net and this next hop, where they are said. The fields are tested in this
-- order.
abbrev pub asked : Option Prefix → Option Addr → Data → Result RouteAsked CallFault
asked said hop d =
    read_then (must (At field.Net) said) (λ net.
    read_then (list_in asn_at 1000 field.Path d) (λ path.
    read_then (must (At field.NextHop) (of_family net hop)) (λ next_hop.
    read_then (list_in pair_at 1000 field.Pairs d) (λ pairs.
    read_then (list_in triple_at 1000 field.Triples d) (λ triples.
    read_then (peers_by (value_at field.Peers d)) (λ peers.
    Ok (record { route = record { net = net; path = path; next_hop = next_hop; pairs = pairs; triples = triples }; peers = peers })))))))

abbrev pub Asked : Data → Result RouteAsked CallFault → Type 0
Asked d r = (net : Option Prefix) × PrefixIn field.Net d net
    × ((hop : Option Addr) × AddressIn field.NextHop d hop × (r ≡ asked net hop d))

-- what a body asks of a route
abbrev pub SaysRoute : List ℕ → Result RouteAsked CallFault → Type 0
SaysRoute body r = ThenSays (object_of body) Asked r
