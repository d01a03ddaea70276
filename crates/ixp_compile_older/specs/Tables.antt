-- What a route server of the first version refuses, and what it writes on a route (RFC 7947 section 4.2, RFC
-- 7454 sections 6 and 9). Blackhole routes are routes as any other, and communities aren't counted. Sentences
-- that were then as they are today are those of ixp_policy.
use Rattle.std.specs.Prelude.{ℕ, Bool, ◌&&◌, not, nat_lt, List, [], ◌∷◌, ◌++◌, Option}
use Rattle.ixp_num.specs.declared.roa.Validity.TheVariants.{Valid, Unknown, Invalid}
use Rattle.ixp_lang.specs.declared.communities.TheConstants.{FINDING, ORIGIN_STATE}
use Rattle.ixp_lang.specs.declared.route.Route.{Route}
use Rattle.ixp_registry.specs.declared.registry.Registry.{Registry}
use Rattle.ixp_registry.specs.declared.router.Router.{Router}
use Rattle.ixp_registry.specs.Sessions.{Session}
use Rattle.ixp_policy.specs.declared.line.Line.{Line}
use Rattle.ixp_policy.specs.declared.line.Reason.TheVariants.{PrefixTooLong, PrefixTooShort, Bogon, PathEmpty, PathTooLong, FirstAsNotPeerAs, NextHopNotPeer, BogonAsInPath, TransitFreeAsInPath, OriginNotRegistered, OriginInvalid, PrefixNotRegistered}
use Rattle.ixp_policy.specs.Import.{prefix_too_short, prefix_is_bogon, path_empty, path_too_long, first_as_not_peer_as, is_own_hop, next_hop_not_peer, bogon_as_in_path, transit_free_as_in_path, origin_not_registered, is_found, is_registered, line, first_that_holds, is_reached, is_got_past, brought_triples}
use Rattle.ixp_policy.specs.Tags.{chosen, is_empty, refusal_told}

-- The import table.

-- the tests that decide by the member's prefixes: those of an address that is held to them, and of a route
-- that isn't found Valid (RFC 6811)
abbrev pub older_goes_by_prefixes : Registry → Router → Session → Route → Bool
older_goes_by_prefixes r router s route = s.address.irr && not (is_found r router route Valid)

-- the twelve sentences in the order in which they count, each with the reason that it gives
unfoldable pub older_table : Registry → Router → Session → Route → List Line
older_table r router s route =
    line PrefixTooLong (nat_lt router.high route.net.len)
    ∷ line PrefixTooShort (prefix_too_short router route)
    ∷ line Bogon (prefix_is_bogon r route)
    ∷ line PathEmpty (path_empty route)
    ∷ line PathTooLong (path_too_long route)
    ∷ line FirstAsNotPeerAs (first_as_not_peer_as s route)
    ∷ line NextHopNotPeer (next_hop_not_peer r router s route)
    ∷ line BogonAsInPath (bogon_as_in_path r route)
    ∷ line TransitFreeAsInPath (transit_free_as_in_path r s route)
    ∷ line OriginNotRegistered (origin_not_registered s route)
    ∷ line OriginInvalid (is_found r router route Invalid)
    ∷ line PrefixNotRegistered (older_goes_by_prefixes r router s route && not (is_registered s route))
    ∷ []

-- the line by which the route is refused; it is taken where there is none
abbrev pub older_refusal : Registry → Router → Session → Route → Option Line
older_refusal r router s route = first_that_holds (older_table r router s route)

-- Tags.

-- What is told, where it holds. rs:1001:1200 the next hop is another router of the member; rs:1001:2 its
-- registered origins aren't asked for; rs:1001:1002 there are none; rs:1000:3, rs:1000:1, rs:1000:2 the
-- router tests no origins, Valid, Unknown (RFC 6811); rs:1001:1 the net is of a registered prefix.
unfoldable pub older_findings : Registry → Router → Session → Route → List Line → List (Bool × (ℕ × ℕ × ℕ))
older_findings r router s route lines =
    (is_got_past NextHopNotPeer lines && not (is_own_hop s route), (router.asn.0, FINDING, 1200))
    ∷ (is_reached OriginNotRegistered lines && not s.address.irr, (router.asn.0, FINDING, 2))
    ∷ (is_reached OriginNotRegistered lines && s.address.irr && is_empty s.origins, (router.asn.0, FINDING, 1002))
    ∷ (is_reached OriginInvalid lines && not router.rpki, (router.asn.0, ORIGIN_STATE, 3))
    ∷ (is_reached OriginInvalid lines && is_found r router route Valid, (router.asn.0, ORIGIN_STATE, 1))
    ∷ (is_reached OriginInvalid lines && is_found r router route Unknown, (router.asn.0, ORIGIN_STATE, 2))
    ∷ (is_got_past PrefixNotRegistered lines && older_goes_by_prefixes r router s route, (router.asn.0, FINDING, 1))
    ∷ []

-- these, and last the number of the refusal, rs:1101:n
abbrev pub older_tags : Registry → Router → Session → Route → List Line → List (ℕ × ℕ × ℕ)
older_tags r router s route lines =
    chosen (older_findings r router s route lines) ++ refusal_told router (first_that_holds lines)

-- the route as the server holds it: with its own tags in the place of those that the route brought
abbrev pub older_tagged : Registry → Router → Session → Route → Route
older_tagged r router s route =
    record route {
      triples = brought_triples router.asn.0 route
          ++ older_tags r router s route (older_table r router s route);
    }
