-- What a receiver gets of a route that a route server has taken (RFC 7947 section 2.2).
use Rattle.std.specs.Prelude.{ℕ, Bool, ◌&&◌, ◌||◌, ◌==◌, not, nat_le, List, [], ◌∷◌, ◌++◌, filter, replicate, Option, Some, None, option_map, if◌then◌else◌}
use Rattle.std.specs.List.{list_any}
use Rattle.ixp_num.specs.declared.addr.Addr.{Addr}
use Rattle.ixp_lang.specs.declared.route.Route.{Route}
use Rattle.ixp_lang.specs.Steering.{sends, prepends}
use Rattle.ixp_registry.specs.declared.rules.Action.{Action}
use Rattle.ixp_registry.specs.declared.rules.Action.TheVariants.{AsIs, Prepend, Stop}
use Rattle.ixp_registry.specs.declared.router.Router.{Router}
use Rattle.ixp_num_tables.specs.Tables.{if_there}
use Rattle.ixp_registry.specs.Sessions.{Session, asked, receives}
use Rattle.ixp_lang.specs.declared.communities.TheConstants.{KEEP_FROM, SEND_TO, PREPEND_ONCE, PREPEND_TWICE, PREPEND_THRICE, ORIGIN_STATE, FINDING, REFUSED}
use Rattle.ixp_policy.specs.Blackholes.{is_blackhole}

-- how often an action puts the sender's number in front; None where it stops the route
abbrev pub times_of : Action → Option ℕ
times_of AsIs = Some 0
times_of (Prepend k) = Some k
times_of Stop = None

-- what the route's communities ask for the receiver's number `to`
abbrev pub steered : ℕ → Route → ℕ → Option ℕ
steered rs route to = if sends rs route to then Some (prepends rs route to) else None

-- The wish for a receiver's number: how often the sender's number is put in front of the path, None where the
-- route isn't to be sent. The sender's rules decide; where none is about the net and the receiver, the
-- route's communities do.
abbrev pub wish : Router → Session → Route → ℕ → Option ℕ
wish router s route to = if_there (asked s.rules router.asn.0 route.net to)
    (steered router.asn.0 route to) times_of

-- where a receiver is to send the traffic of a blackhole route (RFC 7999 section 3.1), and of any other
abbrev pub hop_of : Router → Route → Addr
hop_of router route = if is_blackhole router route then if_there router.blackhole route.next_hop (λ a. a)
    else route.next_hop

-- a community that is for the server `rs`: it begins with 0 or its number, where that fits
abbrev pub is_for_server : ℕ → ℕ × ℕ → Bool
is_for_server rs p = nat_le rs 65535 && (p.0 == 0 || p.0 == rs)

-- the second parts of a server's own large communities: to whom, how often in front, what was found
abbrev pub server_actions : List ℕ
server_actions = KEEP_FROM ∷ SEND_TO ∷ PREPEND_ONCE ∷ PREPEND_TWICE ∷ PREPEND_THRICE ∷ ORIGIN_STATE ∷ FINDING
    ∷ REFUSED ∷ []

abbrev pub is_of_server : ℕ → ℕ × ℕ × ℕ → Bool
is_of_server rs t = t.0 == rs && list_any (λ a. a == t.1) server_actions

-- what is received where the sender's number is put in front `times` times
abbrev pub sent_route : Router → Session → Route → ℕ → Route
sent_route router s route times = record {
  net = route.net;
  path = replicate times s.member.asn ++ route.path;
  next_hop = hop_of router route;
  pairs = filter (λ p. not (is_for_server router.asn.0 p)) route.pairs;
  triples = filter (λ t. not (is_of_server router.asn.0 t)) route.triples;
}

-- the receiver's rules let the net in from the sender's number
abbrev pub lets_in : Session → Session → Route → Bool
lets_in receiver s route = receives receiver.rules route.net s.member.asn.0

-- what the receiver gets of the sender's route, if anything
abbrev pub received : Router → Session → Route → Session → Option Route
received router s route receiver =
    if lets_in receiver s route
    then option_map (sent_route router s route) (wish router s route receiver.member.asn.0) else None
