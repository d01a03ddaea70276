-- The text of a route server by the rows of a registry, and when a text does what the rules over the rows
-- say. This page and what it names is what there is to believe of generated texts.
use Rattle.std.specs.Prelude.{◌≡◌, ℕ, true, List, Option, Some, Ok, codes, reverse}
use Rattle.std.specs.Option.{is_some}
use Rattle.ixp_lang.specs.declared.route.Route.{Route}
use Rattle.ixp_lang.specs.declared.route.Verdict.TheVariants.{Accept}
use Rattle.ixp_lang.specs.declared.value.Value.TheVariants.{Bool, Int}
use Rattle.ixp_lang.specs.Meaning.{Environment, filter_end, function_end}
use Rattle.ixp_lang.specs.Trees.{ItemTree}
use Rattle.ixp_lang.specs.Walks.{walk}
use Rattle.ixp_print.specs.Texts.{config_text}
use Rattle.ixp_read.specs.Answers.{SpellsText}
use Rattle.ixp_registry.specs.declared.registry.Registry.{Registry}
use Rattle.ixp_registry.specs.declared.router.Router.{Router}
use Rattle.ixp_registry.specs.Sessions.{Session, session}
use Rattle.ixp_policy.specs.Export.{wish}
use Rattle.ixp_policy.specs.Fates.{fate_of, passes}
use Rattle.ixp_policy.specs.Tags.{tagged}
use Rattle.ixp_compile.specs.Fragment.{bgp_name, up_name}
use Rattle.ixp_compile.specs.Generated.{generated, own_part, roa_tables}
use Rattle.ixp_compile.specs.Whole.{own_fate}

-- the text of a router: its head, a part for each of its sessions, the foot
abbrev pub Gen : Registry → Router → List ℕ
Gen r router = config_text (generated r router)

-- a session's own text: the head, its part, the foot
abbrev pub Part : Registry → Router → Session → List ℕ
Part r router s = config_text (own_part r router s)

-- The text spells a configuration. Every route of the router's family that a session brings has by it, with
-- the ROAs of the registry, the fate that the rules say: what the session's table holds, whether it passes,
-- and what each other session is sent. None of them is a fault.
pub record Right (text : List ℕ) (r : Registry) (router : Router) : Type 0 where
  pub configuration : List ItemTree
  pub is_spelt : SpellsText text configuration
  pub is_fate :
      (n : ℕ) (s : Session) (route : Route) → session r router n ≡ Some s → route.net.family ≡ router.family
      → walk configuration (roa_tables r) (bgp_name n) route ≡ Ok (fate_of r router route s)

-- `ixp_sends` says of the route and each receiver's AS number whether it is to be sent there, and `ixp_count`
-- how often the sender's number is put in front: this is the wish.
abbrev pub SendsAsWished : List ItemTree → Route → (ℕ → Option ℕ) → Type 0
SendsAsWished configuration route wished =
    (env : Environment) (to : ℕ)
    → (function_end env (reverse configuration) (codes "ixp_sends") to route
    ≡ Ok (Bool (is_some (wished to))))
    × ((times : ℕ) → wished to ≡ Some times
    → function_end env (reverse configuration) (codes "ixp_count") to route ≡ Ok (Int times))

-- The text spells a configuration. Every route of the session's family has by it, from that session, the
-- table and the verdict that the rules say. Where it passes, the filter up accepts what the table holds as a
-- route that tells the wish for every receiver.
pub record RightOwn (text : List ℕ) (r : Registry) (router : Router) (n : ℕ) (s : Session) : Type 0 where
  pub configuration : List ItemTree
  pub is_spelt : SpellsText text configuration
  pub is_fate :
      (route : Route) → route.net.family ≡ router.family
      → walk configuration (roa_tables r) (bgp_name n) route ≡ Ok (own_fate r router s route)
  pub up :
      (route : Route) → route.net.family ≡ router.family → passes r router s route ≡ true
      → (sent : Route)
      × ((env : Environment)
      → filter_end env (reverse configuration) (up_name n) (tagged r router s route) ≡ Ok (Accept sent))
      × SendsAsWished configuration sent (wish router s (tagged r router s route))
