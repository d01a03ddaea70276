-- What the names of a route server's head mean to the filters behind it, in the words of the rules over rows.
use Rattle.std.specs.Prelude.{◌≡◌, ◌<◌, ◌≤◌, ℕ, Bool, true, List, [], ◌∷◌, ◌++◌, Option, Some, None, not, filter, replicate, codes, if◌then◌else◌}
use Rattle.std.specs.List.{list_any, AllByRecursion}
use Rattle.std.specs.Option.{is_some}
use Rattle.ixp_num.specs.declared.asn.Asn.{Asn}
use Rattle.ixp_lang.specs.declared.communities.TheConstants.{REFUSED}
use Rattle.ixp_lang.specs.declared.route.Route.{Route}
use Rattle.ixp_lang.specs.declared.value.SetLit.{SetLit}
use Rattle.ixp_lang.specs.declared.value.Value.TheVariants as value
use Rattle.ixp_lang.specs.Attributes.{first_of, with_triple}
use Rattle.ixp_lang.specs.Meaning.{Known, End, falls, returns, accepts}
use Rattle.ixp_lang.specs.Steering.{sends, prepends}
use Rattle.ixp_registry.specs.declared.registry.Registry.{Registry}
use Rattle.ixp_registry.specs.declared.router.Router.{Router}
use Rattle.ixp_policy.specs.Blackholes.{is_blackhole}
use Rattle.ixp_policy.specs.Export.{hop_of, is_for_server, is_of_server}
use Rattle.ixp_policy.specs.Import.{prefix_too_long, prefix_too_short, prefix_is_bogon, path_empty, path_too_long, too_many_communities, brought_triples, bogon_as_in_path, is_listed}

-- Refusals.

-- the filter ends: the route is accepted as it is, with the number that refuses it
abbrev pub refused_with : ℕ → ℕ → Route → End
refused_with rs n route = accepts (with_triple (value.Triple rs REFUSED n) route)

-- the number of the first sentence that holds
abbrev pub first_number : List (Bool × ℕ) → Option ℕ
first_number [] = None
first_number ((holds, n) ∷ sentences) = if holds then Some n else first_number sentences

-- a procedure that refuses the route with the number, where there is one
abbrev pub stops : ℕ → Option ℕ → Route → End
stops rs None route = falls route
stops rs (Some n) route = refused_with rs n route

-- with what number the net or the length of a list refuses a route
abbrev pub net_refusal : Registry → Router → Route → Option ℕ
net_refusal r router route =
    first_number
    ((prefix_too_long router route, 1)
    ∷ (prefix_too_short router route, 2)
    ∷ (prefix_is_bogon r route, 3)
    ∷ (path_empty route, 6)
    ∷ (path_too_long route, 5)
    ∷ (too_many_communities router route, 15)
    ∷ [])

abbrev pub bogon_as_refusal : Registry → Route → Option ℕ
bogon_as_refusal r route = first_number ((bogon_as_in_path r route, 4) ∷ [])

-- a number of the path is that of a network that buys no transit
abbrev pub has_transit_as : Registry → Route → Bool
has_transit_as r route = list_any (λ a. is_listed r.public.transit a.0) route.path

abbrev pub transit_refusal : Registry → Route → Option ℕ
transit_refusal r route = first_number ((has_transit_as r route, 14) ∷ [])

-- the route has none of the large communities with which the server `rs` tells what it found
abbrev pub HasNoReports : ℕ → Route → Type 0
HasNoReports rs route = brought_triples rs route ≡ route.triples

-- the path's first number `times` times more in front of it
abbrev pub padded : ℕ → Route → Route
padded times route = record route {
  path = replicate times (record {
    0 = first_of route.path;
  }) ++ route.path;
}

-- what a receiver gets of a route that goes out
abbrev pub cleaned : Router → Route → Route
cleaned router route = record route {
  next_hop = hop_of router route;
  pairs = filter (λ p. not (is_for_server router.asn.0 p)) route.pairs;
  triples = filter (λ t. not (is_of_server router.asn.0 t)) route.triples;
}

-- Names.

-- a defined set of a list's items has its value; there is none where the list is empty
abbrev pub IsNamed : {A : Type 0} → Known → List ℕ → (List A → SetLit) → List A → Type 0
IsNamed k name made [] = Unit {0}
IsNamed k name made (x ∷ xs) =
    (route : Route) → k.value name route ≡ returns (value.Set (made (x ∷ xs))) route

-- Ranges of AS numbers ascend by their first numbers.
abbrev pub FirstsAscend : List (Asn × Asn) → Type 0
FirstsAscend [] = Unit {0}
FirstsAscend (r ∷ rs) = AllByRecursion (λ s. r.0.0 ≤ s.0.0) rs × FirstsAscend rs

-- what the head's functions rest on, beside the rows: a number of the language is at most 4294967295
pub record HeadStands (r : Registry) (router : Router) : Type 0 where
  pub bounded : router.max_comms < 4294967295
  pub ascend : FirstsAscend r.public.bogon_as

-- `ixp_drop` refuses a route with a number
abbrev pub Drops : ℕ → Known → Type 0
Drops rs k = (n : ℕ) (route : Route)
    → k.call (codes "ixp_drop") (value.Int n ∷ []) route ≡ refused_with rs n route

-- `ixp_bh`, where the router has an address for blackhole routes, knows them
abbrev pub TellsBlackholes : Router → Known → Type 0
TellsBlackholes router k =
    (route : Route) → route.net.family ≡ router.family → is_some router.blackhole ≡ true
    → k.call (codes "ixp_bh") [] route ≡ returns (value.Bool (is_blackhole router route)) route

-- What each function of the head does, for routes of the router's family.
pub record Shared (r : Registry) (router : Router) (k : Known) : Type 0 where
  pub drop : Drops router.asn.0 k
  pub blackhole : TellsBlackholes router k
  pub net : (route : Route) → route.net.family ≡ router.family → HasNoReports router.asn.0 route
      → k.call (codes "ixp_net") [] route ≡ stops router.asn.0 (net_refusal r router route) route
  pub bogon_as : (route : Route)
      → k.call (codes "ixp_as") [] route ≡ stops router.asn.0 (bogon_as_refusal r route) route
  pub transit : (route : Route)
      → k.call (codes "ixp_transit") [] route ≡ stops router.asn.0 (transit_refusal r route) route
  pub sends : (p : ℕ) (route : Route)
      → k.call (codes "ixp_sends") (value.Int p ∷ []) route
      ≡ returns (value.Bool (sends router.asn.0 route p)) route
  pub counts : (p : ℕ) (route : Route)
      → k.call (codes "ixp_count") (value.Int p ∷ []) route
      ≡ returns (value.Int (prepends router.asn.0 route p)) route
  pub pads : (n : ℕ) (route : Route) → n ≤ 3
      → k.call (codes "ixp_pad") (value.Int n ∷ []) route ≡ falls (padded n route)
