-- What a route server writes on a route that a session brings: large communities that tell what it found (RFC
-- 8092).
use Rattle.std.specs.Prelude.{ℕ, Bool, true, false, ◌&&◌, ◌||◌, not, List, [], ◌∷◌, ◌++◌, Option, if◌then◌else◌}
use Rattle.ixp_num.specs.declared.asn.Asn.{Asn}
use Rattle.ixp_num.specs.declared.roa.Validity.TheVariants.{Valid, Unknown}
use Rattle.ixp_lang.specs.declared.route.Route.{Route}
use Rattle.ixp_registry.specs.declared.registry.Registry.{Registry}
use Rattle.ixp_registry.specs.declared.router.Router.{Router}
use Rattle.ixp_num_tables.specs.Tables.{if_there}
use Rattle.ixp_registry.specs.Sessions.{Session}
use Rattle.ixp_policy.specs.declared.line.Line.{Line}
use Rattle.ixp_policy.specs.Blackholes.{is_blackhole}
use Rattle.ixp_policy.specs.Import.{brought_triples, is_own_hop, is_found, is_found_to_be, import_table, first_that_holds, is_reached, is_got_past}
use Rattle.ixp_policy.specs.declared.line.Reason.TheVariants.{NextHopNotPeer, OriginNotRegistered, OriginInvalid, PrefixNotRegistered}
use Rattle.ixp_policy.specs.Reasons.{number_of}
use Rattle.ixp_lang.specs.declared.communities.TheConstants.{ORIGIN_STATE, FINDING, REFUSED}

-- the values whose lines hold, in their order
abbrev pub chosen : {A : Type 0} → List (Bool × A) → List A
chosen [] = []
chosen ((holds, x) ∷ lines) = if holds then x ∷ chosen lines else chosen lines

abbrev pub is_empty : List Asn → Bool
is_empty [] = true
is_empty (a ∷ asns) = false

-- origins aren't tested: the router tests none, or the route is a blackhole route
abbrev pub is_untested : Router → Route → Bool
is_untested router route = not router.rpki || is_blackhole router route

-- the tests that decide by the member's prefixes: those of a blackhole route, and of one that isn't found
-- Valid
abbrev pub goes_by_prefixes : Registry → Router → Session → Route → Bool
goes_by_prefixes r router s route =
    s.address.irr && (is_blackhole router route || not (is_found r router route Valid))

-- What is told, where it holds. rs:1001:1200 the next hop is another router of the member; rs:1001:2 its
-- registered origins aren't asked for; rs:1001:1002 there are none; rs:1000:3, rs:1000:1, rs:1000:2 origins
-- aren't tested, Valid, Unknown (RFC 6811); rs:1001:1 the net is of a registered prefix.
unfoldable pub findings : Registry → Router → Session → Route → List Line → List (Bool × (ℕ × ℕ × ℕ))
findings r router s route lines =
    (is_got_past NextHopNotPeer lines && not (is_own_hop s route), (router.asn.0, FINDING, 1200))
    ∷ (is_reached OriginNotRegistered lines && not s.address.irr, (router.asn.0, FINDING, 2))
    ∷ (is_reached OriginNotRegistered lines && s.address.irr && is_empty s.origins, (router.asn.0, FINDING, 1002))
    ∷ (is_reached OriginInvalid lines && is_untested router route, (router.asn.0, ORIGIN_STATE, 3))
    ∷ (is_reached OriginInvalid lines && is_found_to_be Valid r router route, (router.asn.0, ORIGIN_STATE, 1))
    ∷ (is_reached OriginInvalid lines && is_found_to_be Unknown r router route, (router.asn.0, ORIGIN_STATE, 2))
    ∷ (is_got_past PrefixNotRegistered lines && goes_by_prefixes r router s route, (router.asn.0, FINDING, 1))
    ∷ []

-- rs:1101:n the route is refused with the number n
abbrev pub refusal_told : Router → Option Line → List (ℕ × ℕ × ℕ)
refusal_told router refused = if_there refused [] (λ l. (router.asn.0, REFUSED, number_of l.reason) ∷ [])

abbrev pub tags : Registry → Router → Session → Route → List Line → List (ℕ × ℕ × ℕ)
tags r router s route lines =
    chosen (findings r router s route lines) ++ refusal_told router (first_that_holds lines)

-- the route as the server holds it: with its own tags in the place of those that the route brought
abbrev pub tagged : Registry → Router → Session → Route → Route
tagged r router s route =
    record route {
      triples = brought_triples router.asn.0 route
          ++ tags r router s route (import_table r router s route);
    }
