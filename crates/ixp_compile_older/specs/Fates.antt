-- What becomes of a route that a session of a route server of the first version brings (RFC 7947).
use Rattle.std.specs.Prelude.{ℕ, Bool, not, List, [], ◌++◌, map, filter, replicate, Option, None, Some, is_none, option_map, if◌then◌else◌}
use Rattle.ixp_num_tables.specs.Tables.{if_there}
use Rattle.ixp_lang.specs.declared.fate.Fate.{Fate}
use Rattle.ixp_lang.specs.declared.route.Route.{Route}
use Rattle.ixp_registry.specs.declared.network.Interface.{Interface}
use Rattle.ixp_registry.specs.declared.registry.Registry.{Registry}
use Rattle.ixp_registry.specs.declared.router.Router.{Router}
use Rattle.ixp_registry.specs.Sessions.{Session, session_at, sessions_of}
use Rattle.ixp_policy.specs.Export.{is_for_server, is_of_server, lets_in, wish}
use Rattle.ixp_policy.specs.Fates.{at_session, is_other, session_name}
use Rattle.ixp_policy.specs.Import.{refusal_number}
use Rattle.ixp_compile_older.specs.Tables.{older_refusal, older_tagged}

-- what is received where the sender's number is put in front `times` times: the next hop stays the same (RFC
-- 7947 section 2.2.1)
abbrev pub older_sent_route : Router → Session → Route → ℕ → Route
older_sent_route router s route times = record {
  net = route.net;
  path = replicate times s.member.asn ++ route.path;
  next_hop = route.next_hop;
  pairs = filter (λ p. not (is_for_server router.asn.0 p)) route.pairs;
  triples = filter (λ t. not (is_of_server router.asn.0 t)) route.triples;
}

-- what the receiver gets of the sender's route, if anything
abbrev pub older_received : Router → Session → Route → Session → Option Route
older_received router s route receiver =
    if lets_in receiver s route then option_map (older_sent_route router s route)
    (wish router s route receiver.member.asn.0) else None

-- what the session of an interface gets of the sender's route
abbrev pub older_sent_at : Registry → Router → Session → Route → Interface → List ℕ × Option Route
older_sent_at r router s route i =
    (session_name i.number, if_there (session_at r router i) None (older_received router s route))

-- what each other session gets, another one of the same member included
abbrev pub older_sent_to_others : Registry → Router → Session → Route → List (List ℕ × Option Route)
older_sent_to_others r router s route =
    map (older_sent_at r router s route) (filter (is_other s) (sessions_of r router))

-- the route passes where no line of the import table holds
abbrev pub older_passes : Registry → Router → Session → Route → Bool
older_passes r router s route = is_none (older_refusal r router s route)

-- the fate of a route that the session brings
abbrev pub older_fate_of : Registry → Router → Route → Session → Fate
older_fate_of r router route s = record {
  table = Some (older_tagged r router s route);
  passed = older_passes r router s route;
  sent = if older_passes r router s route then older_sent_to_others r router s (older_tagged r router s route)
      else [];
}

-- by the router's handle and the interface's number, None where there is no such session
abbrev pub older_fate : Registry → List ℕ → ℕ → Route → Option Fate
older_fate r handle n route = at_session r handle n (λ router s. older_fate_of r router route s)

-- the number with which the route is refused there, if it is
abbrev pub older_number : Registry → List ℕ → ℕ → Route → Option (Option ℕ)
older_number r handle n route =
    at_session r handle n (λ router s. refusal_number (older_refusal r router s route))

-- the wish for a receiver's number there
abbrev pub older_ask : Registry → List ℕ → ℕ → Route → ℕ → Option (Option ℕ)
older_ask r handle n route to =
    at_session r handle n (λ router s. wish router s (older_tagged r router s route) to)
