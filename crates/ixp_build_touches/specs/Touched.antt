-- Which texts a change touches. A header is named by its router's handle, a session's part by that and the
-- interface's number.
use Rattle.std.specs.Prelude.{ℕ, ◌&&◌, not, Bool, false, List, [], ◌∷◌, ◌++◌, Option, Some, None, filter, filter_map, flat_map, if◌then◌else◌}
use Rattle.std.specs.Option.{is_some}
use Rattle.ixp_num_tables.specs.Tables.{find, if_there}
use Rattle.ixp_registry.specs.declared.network.Interface.{Interface}
use Rattle.ixp_registry.specs.declared.registry.Registry.{Registry}
use Rattle.ixp_registry.specs.declared.router.Router.{Router}
use Rattle.ixp_registry.specs.Keys.{interface_key, router_key}
use Rattle.ixp_registry.specs.Sessions.{is_session}
use Rattle.ixp_registry_change.specs.declared.change.RegistryChange.{RegistryChange}
use Rattle.ixp_build_touches.specs.declared.reach.Reach.{Reach}
use Rattle.ixp_build_touches.specs.declared.touch.Reached.{Reached}
use Rattle.ixp_build_pending.specs.declared.touch.Touch.{Touch}
use Rattle.ixp_build_touches.specs.Reaches.{header_reach, may_bring, reach, takes_header, takes_in, touches_roas}

-- Sessions.

abbrev pub SessionKey : Type 0
SessionKey = List ℕ × ℕ

-- the router's session at the interface, where it has one that is reached
abbrev pub key_within : Reach → Registry → Interface → Router → Option SessionKey
key_within x r i q = if takes_in x q i && is_session r q i then Some (q.handle, i.number) else None

-- the registry's sessions that are reached, interface by interface
abbrev pub sessions_within : Reach → Registry → List SessionKey
sessions_within x r = flat_map (λ i. filter_map (key_within x r i) r.routers) r.interfaces

-- the router with the handle has a session at the interface with the number
abbrev pub has_session : Registry → SessionKey → Bool
has_session r k =
    if_there (find router_key k.0 r.routers) false
    (λ q. if_there (find interface_key (k.1 ∷ []) r.interfaces) false (is_session r q))

-- the sessions reached that there were, and those that come
abbrev pub touched_sessions : Registry → Registry → RegistryChange → List SessionKey
touched_sessions before after c =
    sessions_within (reach before c) before
    ++ filter (λ k. not (has_session before k)) (sessions_within (reach before c) after)

-- Headers.

abbrev pub handle_within : Reach → Router → Option (List ℕ)
handle_within x q = if takes_header x q.handle then Some q.handle else None

abbrev pub headers_within : Reach → Registry → List (List ℕ)
headers_within x r = filter_map (handle_within x) r.routers

abbrev pub has_router : Registry → List ℕ → Bool
has_router r handle = is_some (find router_key handle r.routers)

-- the headers reached that there were, and those that come
abbrev pub touched_headers : Registry → Registry → RegistryChange → List (List ℕ)
touched_headers before after c =
    headers_within (header_reach c) before
    ++ filter (λ h. not (has_router before h)) (headers_within (header_reach c) after)

-- All together.

-- what a change touches, of the registry before it and of the one after it
abbrev pub touch : Registry → Registry → RegistryChange → Touch
touch before after c = record {
  headers = touched_headers before after c;
  sessions = touched_sessions before after c;
  roas = touches_roas c;
}

-- The same in two steps, for who makes the change in place: what is reached before it, and then what there is
-- after it.

-- what a change reaches in the registry that it meets
abbrev pub reached : Registry → RegistryChange → Reached
reached r c = record {
  headers = header_reach c;
  sessions = reach r c;
  may_bring = may_bring c;
  before = record {
    headers = headers_within (header_reach c) r;
    sessions = sessions_within (reach r c) r;
    roas = touches_roas c;
  };
}

-- that, and what is reached in the registry after the change. A text may be listed twice.
abbrev pub with_after : Reached → Registry → Touch
with_after x after = if x.may_bring
    then record {
      headers = x.before.headers ++ headers_within x.headers after;
      sessions = x.before.sessions ++ sessions_within x.sessions after;
      roas = x.before.roas;
    }
    else x.before
