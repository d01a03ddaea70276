-- What a route server refuses (RFC 7947 section 4.2, RFC 7454 sections 6 and 9). Each sentence is about rows,
-- and about the route as it came; a route is refused by the first one of the table that holds.
use Rattle.std.specs.Prelude.{ℕ, Bool, true, false, ◌&&◌, ◌||◌, ◌==◌, not, nat_le, nat_lt, List, [], ◌∷◌, length, filter, find, Option, option_map, if◌then◌else◌}
use Rattle.std.specs.List.{list_any}
use Rattle.ixp_num.specs.declared.addr.Addr.{Addr}
use Rattle.ixp_num.specs.declared.asn.Asn.{Asn}
use Rattle.ixp_num.specs.declared.prefix.Prefix.{Prefix}
use Rattle.ixp_num.specs.declared.roa.Validity.{Validity}
use Rattle.ixp_num.specs.declared.roa.Validity.TheVariants.{Valid, Invalid}
use Rattle.ixp_num.specs.Prefixes.{covers, is_in_set, same_addr, same_prefix}
use Rattle.ixp_num.specs.Roas.{validity}
use Rattle.ixp_lang.specs.declared.route.Route.{Route}
use Rattle.ixp_lang.specs.Attributes.{first_of, last_of, same_state}
use Rattle.ixp_registry.specs.declared.network.IfAddr.{IfAddr}
use Rattle.ixp_registry.specs.declared.network.Interface.{Interface}
use Rattle.ixp_registry.specs.declared.registry.Registry.{Registry}
use Rattle.ixp_registry.specs.declared.router.Router.{Router}
use Rattle.ixp_num_tables.specs.Tables.{if_there}
use Rattle.ixp_registry.specs.Sessions.{Session, address_of, is_beside}
use Rattle.ixp_policy.specs.declared.line.Line.{Line}
use Rattle.ixp_policy.specs.declared.line.Reason.{Reason}
use Rattle.ixp_policy.specs.declared.line.Reason.TheVariants.{PrefixTooLong, PrefixTooShort, Bogon, PathEmpty, PathTooLong, TooManyCommunities, FirstAsNotPeerAs, NextHopNotPeer, BogonAsInPath, TransitFreeAsInPath, OriginNotRegistered, OriginInvalid, PrefixNotRegistered}
use Rattle.ixp_policy.specs.Reasons.{number_of, same_reason}
use Rattle.ixp_lang.specs.declared.communities.TheConstants.{ORIGIN_STATE, FINDING, REFUSED}
use Rattle.ixp_policy.specs.Blackholes.{is_blackhole}

-- Nets.

-- longer than the router takes, and no blackhole route's
abbrev pub prefix_too_long : Router → Route → Bool
prefix_too_long router route = nat_lt router.high route.net.len && not (is_blackhole router route)

abbrev pub prefix_too_short : Router → Route → Bool
prefix_too_short router route = nat_lt route.net.len router.low

-- a net that nobody may announce (RFC 7454 section 6.1)
abbrev pub prefix_is_bogon : Registry → Route → Bool
prefix_is_bogon r route = is_in_set r.public.bogons route.net

-- Lengths of lists.

abbrev pub path_empty : Route → Bool
path_empty route = length route.path == 0

abbrev pub path_too_long : Route → Bool
path_too_long route = nat_lt 64 (length route.path)

-- a large community with which a server `rs` tells what it found: rs:1000:x, rs:1001:x or rs:1101:x
abbrev pub is_report : ℕ → ℕ × ℕ × ℕ → Bool
is_report rs t = t.0 == rs && (t.1 == ORIGIN_STATE || t.1 == FINDING || t.1 == REFUSED)

-- the route's large communities but for such ones, which the server alone writes
abbrev pub brought_triples : ℕ → Route → List (ℕ × ℕ × ℕ)
brought_triples rs route = filter (λ t. not (is_report rs t)) route.triples

-- the router bounds communities, and the route brings more of a kind
abbrev pub too_many_communities : Router → Route → Bool
too_many_communities router route =
    not (router.max_comms == 0)
    && (nat_lt router.max_comms (length route.pairs)
    || nat_lt router.max_comms (length (brought_triples router.asn.0 route)))

-- Paths and next hops.

-- the latest AS of the path isn't the member's (RFC 4271 section 6.3)
abbrev pub first_as_not_peer_as : Session → Route → Bool
first_as_not_peer_as s route = not (first_of route.path == s.member.asn.0)

-- the next hop is the session's own address
abbrev pub is_own_hop : Session → Route → Bool
is_own_hop s route = same_addr route.next_hop s.address.addr

abbrev pub has_address : Addr → Option IfAddr → Bool
has_address a x = if_there x false (λ y. same_addr a y.addr)

-- the next hop is the address of the router's family that the member has at this interface of the session's
-- VLAN
abbrev pub is_hop_at : Router → Session → Route → Interface → Bool
is_hop_at router s route i =
    is_beside s i && has_address route.next_hop (address_of router.family i)

-- the next hop is neither the session's own address nor another one of the member's on the VLAN
abbrev pub next_hop_not_peer : Registry → Router → Session → Route → Bool
next_hop_not_peer r router s route =
    not (is_own_hop s route) && not (list_any (is_hop_at router s route) r.interfaces)

abbrev pub is_bogon_as : Registry → Asn → Bool
is_bogon_as r a = list_any (λ range. nat_le range.0.0 a.0 && nat_le a.0 range.1.0) r.public.bogon_as

-- a number that may stand in no path (RFC 7607, RFC 5398, RFC 6996)
abbrev pub bogon_as_in_path : Registry → Route → Bool
bogon_as_in_path r route = list_any (is_bogon_as r) route.path

abbrev pub is_listed : List Asn → ℕ → Bool
is_listed asns n = list_any (λ a. a.0 == n) asns

-- a network that buys no transit is in the path, and the member isn't one itself (RFC 7454 section 9)
abbrev pub transit_free_as_in_path : Registry → Session → Route → Bool
transit_free_as_in_path r s route =
    list_any (λ a. is_listed r.public.transit a.0) route.path
    && not (is_listed r.public.transit s.member.asn.0)

-- Origins and registered prefixes.

-- the origin isn't one that the member has registered
abbrev pub origin_not_registered : Session → Route → Bool
origin_not_registered s route = s.address.irr && not (is_listed s.origins (last_of route.path))

-- what the ROAs say of the route (RFC 6811)
abbrev pub state_of : Registry → Route → Validity
state_of r route = validity r.public.roas route.net (last_of route.path)

-- the router tests origins, and finds the route in this state
abbrev pub is_found : Registry → Router → Route → Validity → Bool
is_found r router route state = router.rpki && same_state (state_of r route) state

-- the same, of a route that isn't a blackhole route
abbrev pub is_found_to_be : Validity → Registry → Router → Route → Bool
is_found_to_be state r router route = not (is_blackhole router route) && is_found r router route state

abbrev pub origin_invalid : Registry → Router → Route → Bool
origin_invalid r router route = is_found_to_be Invalid r router route

abbrev pub is_in_list : Prefix → List Prefix → Bool
is_in_list net ps = list_any (λ p. same_prefix p net) ps

abbrev pub is_covered_by : Prefix → List Prefix → Bool
is_covered_by net ps = list_any (λ p. covers p net) ps

-- the member has registered the net or, where `more` is set for the address, a prefix that covers it
abbrev pub is_registered : Session → Route → Bool
is_registered s route = if s.address.more then is_covered_by route.net s.prefixes
    else is_in_list route.net s.prefixes

-- Not the member's to announce: a blackhole route where the address isn't held to the member's lists, or no
-- registered prefix covers it; any other route where the address is, and the route neither is found Valid nor
-- allowed
abbrev pub prefix_not_registered : Registry → Router → Session → Route → Bool
prefix_not_registered r router s route =
    if is_blackhole router route then not s.address.irr || not (is_covered_by route.net s.prefixes)
    else s.address.irr && not (is_found r router route Valid) && not (is_registered s route)

-- The table.

abbrev pub line : Reason → Bool → Line
line reason holds = record { reason = reason; holds = holds }

-- the sentences in the order in which they count, each with the reason that it gives
unfoldable pub import_table : Registry → Router → Session → Route → List Line
import_table r router s route =
    line PrefixTooLong (prefix_too_long router route)
    ∷ line PrefixTooShort (prefix_too_short router route)
    ∷ line Bogon (prefix_is_bogon r route)
    ∷ line PathEmpty (path_empty route)
    ∷ line PathTooLong (path_too_long route)
    ∷ line TooManyCommunities (too_many_communities router route)
    ∷ line FirstAsNotPeerAs (first_as_not_peer_as s route)
    ∷ line NextHopNotPeer (next_hop_not_peer r router s route)
    ∷ line BogonAsInPath (bogon_as_in_path r route)
    ∷ line TransitFreeAsInPath (transit_free_as_in_path r s route)
    ∷ line OriginNotRegistered (origin_not_registered s route)
    ∷ line OriginInvalid (origin_invalid r router route)
    ∷ line PrefixNotRegistered (prefix_not_registered r router s route)
    ∷ []

-- the first line that holds
abbrev pub first_that_holds : List Line → Option Line
first_that_holds lines = find (λ l. l.holds) lines

-- the line by which the route is refused; it is taken where there is none
abbrev pub refusal : Registry → Router → Session → Route → Option Line
refusal r router s route = first_that_holds (import_table r router s route)

-- no line before the one of the reason holds
abbrev pub is_reached : Reason → List Line → Bool
is_reached reason [] = true
is_reached reason (l ∷ lines) =
    if same_reason l.reason reason then true else (if l.holds then false else is_reached reason lines)

-- nor does that one
abbrev pub is_got_past : Reason → List Line → Bool
is_got_past reason [] = true
is_got_past reason (l ∷ lines) =
    if l.holds then false else (if same_reason l.reason reason then true else is_got_past reason lines)

-- the number of the refusal
abbrev pub refusal_number : Option Line → Option ℕ
refusal_number refused = option_map (λ l. number_of l.reason) refused
