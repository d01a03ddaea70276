-- What becomes of a route that a session of a route server brings (RFC 7947).
use Rattle.std.specs.Prelude.{ℕ, Bool, ◌==◌, not, List, [], ◌++◌, map, filter, codes, decimal, Option, Some, None, is_none, option_map, if◌then◌else◌}
use Rattle.ixp_num_tables.specs.Tables.{find, if_there}
use Rattle.ixp_lang.specs.declared.route.Route.{Route}
use Rattle.ixp_lang.specs.declared.fate.Fate.{Fate}
use Rattle.ixp_registry.specs.declared.network.Interface.{Interface}
use Rattle.ixp_registry.specs.declared.registry.Registry.{Registry}
use Rattle.ixp_registry.specs.declared.router.Router.{Router}
use Rattle.ixp_registry.specs.Keys.{router_key}
use Rattle.ixp_registry.specs.Sessions.{Session, session, session_at, sessions_of}
use Rattle.ixp_policy.specs.Import.{refusal, refusal_number}
use Rattle.ixp_policy.specs.Tags.{tagged}
use Rattle.ixp_policy.specs.Export.{wish, received}

-- the name of an interface's session
abbrev pub session_name : ℕ → List ℕ
session_name n = codes "b_" ++ decimal n

-- what the session of an interface gets of the sender's route
abbrev pub sent_at : Registry → Router → Session → Route → Interface → List ℕ × Option Route
sent_at r router s route i =
    (session_name i.number, if_there (session_at r router i) None (received router s route))

abbrev pub is_other : Session → Interface → Bool
is_other s i = not (i.number == s.interface.number)

-- what each other session gets, another one of the same member included
abbrev pub sent_to_others : Registry → Router → Session → Route → List (List ℕ × Option Route)
sent_to_others r router s route = map (sent_at r router s route) (filter (is_other s) (sessions_of r router))

-- the route passes where no line of the import table holds
abbrev pub passes : Registry → Router → Session → Route → Bool
passes r router s route = is_none (refusal r router s route)

-- the fate of a route that the session brings
abbrev pub fate_of : Registry → Router → Route → Session → Fate
fate_of r router route s = record {
  table = Some (tagged r router s route);
  passed = passes r router s route;
  sent = if passes r router s route then sent_to_others r router s (tagged r router s route) else [];
}

-- what `f` says of the session of the interface with the number, None where the router with the handle has no
-- such session
abbrev pub at_session : {T : Type 0} → Registry → List ℕ → ℕ → (Router → Session → T) → Option T
at_session r handle n f = if_there (find router_key handle r.routers) None
    (λ router. option_map (f router) (session r router n))

abbrev pub fate : Registry → List ℕ → ℕ → Route → Option Fate
fate r handle n route = at_session r handle n (λ router s. fate_of r router route s)

-- the number with which the route is refused there, if it is
abbrev pub number : Registry → List ℕ → ℕ → Route → Option (Option ℕ)
number r handle n route = at_session r handle n (λ router s. refusal_number (refusal r router s route))

-- the wish for a receiver's number there
abbrev pub ask : Registry → List ℕ → ℕ → Route → ℕ → Option (Option ℕ)
ask r handle n route to = at_session r handle n (λ router s. wish router s (tagged r router s route) to)
