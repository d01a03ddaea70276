-- What `fate` makes of an input: the dump of a registry, and the line of a route that a session of one of its
-- routers brings.
use Rattle.std.specs.Prelude.{◌≡◌, ◌≢◌, ◌⊎◌, ◌+◌, ℕ, List, ◌++◌, length, drop, None, Some, Result, Ok, Err}
use Rattle.ixp_num.specs.declared.cause.Cause.{Cause}
use Rattle.ixp_num.specs.declared.cause.Code.TheVariants.{E2, E5}
use Rattle.ixp_num.specs.declared.cause.Place.TheVariants.{Line}
use Rattle.ixp_num_tables.specs.Tables.{find}
use Rattle.ixp_lang.specs.declared.fate.Fate.{Fate}
use Rattle.ixp_lang.specs.Texts.{fate_text}
use Rattle.ixp_registry.specs.declared.registry.Registry.{Registry}
use Rattle.ixp_registry.specs.declared.router.Router.{Router}
use Rattle.ixp_registry.specs.Keys.{router_key}
use Rattle.ixp_registry.specs.Sessions.{Session, session}
use Rattle.ixp_rows.specs.Dumps.{RegistryAnswer, version_in}
use Rattle.ixp_policy.specs.Fates.{fate_of}
use Rattle.ixp_compile_laws.specs.Right.{Gen, Right}
use Rattle.ixp_eval_trial.specs.declared.fault.TrialFault.{TrialFault}
use Rattle.ixp_eval_trial.specs.declared.session_route.SessionRoute.{SessionRoute}
use Rattle.ixp_eval_trial.specs.Causes as trial
use Rattle.ixp_eval_trial.specs.Lines.{lines}
use Rattle.ixp_eval_trial.specs.SessionRoutes.{SessionRouteAnswer}
use Rattle.ixp_cli_plain.specs.Checks.{IsNoDump}
use Rattle.ixp_cli_plain.specs.Inputs.{dump_part}

-- the dump in the input is that of this valid registry
abbrev pub HasRegistry : List ℕ → Registry → Type 0
HasRegistry input registry = RegistryAnswer (version_in (dump_part input)) (dump_part input) (Ok registry)

-- what the lines after the dump say; they are numbered as lines of the input
abbrev pub HasRoute : List ℕ → Result SessionRoute TrialFault → Type 0
HasRoute input = SessionRouteAnswer (lines (drop (length (dump_part input)) input))
    (length (lines (dump_part input)) + 1)

-- this session of the router brings the route, which is of the router's family
pub record IsOfSession (registry : Registry) (router : Router) (route : SessionRoute) : Type 0 where
  pub sender : Session
  pub is_sender : session registry router route.interface ≡ Some sender
  pub is_of_family : route.route.net.family ≡ router.family

-- the fate that the rules give the route
abbrev pub HasFate : Registry → Router → SessionRoute → Fate → Type 0
HasFate registry router route fate =
    (sender : Session) → session registry router route.interface ≡ Some sender
    → fate ≡ fate_of registry router route.route sender

-- The output is the text of the router that is asked for, which does what the rules say, and the text of the
-- fate that they give the route.
pub record IsFate (registry : Registry) (route : SessionRoute) (output : List ℕ) : Type 0 where
  pub router : Router
  pub is_there : find router_key route.router registry.routers ≡ Some router
  pub is_sent : IsOfSession registry router route
  pub is_text : output ≡ Gen registry router
      ++ fate_text (fate_of registry router route.route is_sent.sender) (Some router.asn)
  pub is_right : Right (Gen registry router) registry router

-- The input is the dump of a valid registry, followed by the line of a route that a session of one of its
-- routers brings.
pub record Fates (input output : List ℕ) : Type 0 where
  pub registry : Registry
  pub has_registry : HasRegistry input registry
  pub route : SessionRoute
  pub has_route : HasRoute input (Ok route)
  pub is_fate : IsFate registry route output

-- why a router has no fate for a route: the interface is no session of it, or else the route is of another
-- family
abbrev pub IsStray : Registry → Router → SessionRoute → Cause → Type 0
IsStray registry router route cause =
    ((session registry router route.interface ≡ None)
    × (cause ≡ record { code = E5; place = Line route.line }))
    ⊎ ((sender : Session) × (session registry router route.interface ≡ Some sender)
    × (route.route.net.family ≢ router.family)
    × (cause ≡ record { code = E2; place = Line route.line }))

-- why the router that is asked for has none
abbrev pub IsAstray : Registry → SessionRoute → Cause → Type 0
IsAstray registry route cause = (router : Router)
    × (find router_key route.router registry.routers ≡ Some router) × IsStray registry router route cause

-- why the lines after the dump say no route
abbrev pub IsNoRoute : List ℕ → Cause → Type 0
IsNoRoute input cause = (fault : TrialFault) × (trial.cause_of fault ≡ Some cause)
    × HasRoute input (Err fault)

-- why an input is refused: for its dump, or else for what follows that, or else since the router has no fate
-- for the route
abbrev pub IsNoFate : List ℕ → Cause → Type 0
IsNoFate input cause =
    IsNoDump (dump_part input) cause
    ⊎ ((registry : Registry) × HasRegistry input registry × IsNoRoute input cause)
    ⊎ ((registry : Registry) × HasRegistry input registry × (route : SessionRoute) × HasRoute input (Ok route)
    × IsAstray registry route cause)

-- no router of the registry has the handle in the route's line
abbrev pub HasNoRouter : List ℕ → List ℕ → Type 0
HasNoRouter input handle =
    (registry : Registry) × HasRegistry input registry × (route : SessionRoute) × HasRoute input (Ok route)
    × (handle ≡ route.router) × (find router_key route.router registry.routers ≡ None)
