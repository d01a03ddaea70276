-- What the laws on whole texts rest on.
use Rattle.std.specs.Prelude.{[], Some}
use Rattle.ixp_lang.specs.declared.fate.Fate.{Fate}
use Rattle.ixp_lang.specs.declared.route.Route.{Route}
use Rattle.ixp_registry.specs.declared.registry.Registry.{Registry}
use Rattle.ixp_registry.specs.declared.router.Router.{Router}
use Rattle.ixp_registry.specs.Sessions.{Session}
use Rattle.ixp_policy.specs.Fates.{passes}
use Rattle.ixp_policy.specs.Tags.{tagged}

-- what a session's own text does with a route: it has no other session
abbrev pub own_fate : Registry → Router → Session → Route → Fate
own_fate r router s route =
    record { table = Some (tagged r router s route); passed = passes r router s route; sent = [] }
