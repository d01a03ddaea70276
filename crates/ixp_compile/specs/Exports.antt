-- What stands between the table that all share and a receiver.
use Rattle.std.specs.Prelude.{◌≡◌, ℕ, [], Option, Some, None, if◌then◌else◌}
use Rattle.ixp_lang.specs.declared.route.Route.{Route}
use Rattle.ixp_lang.specs.declared.value.Value.TheVariants as value
use Rattle.ixp_lang.specs.Attributes.{first_of}
use Rattle.ixp_lang.specs.Meaning.{Known, End, accepts, rejects, returns}
use Rattle.ixp_registry.specs.declared.router.Router.{Router}
use Rattle.ixp_registry.specs.Sessions.{Session, receives}
use Rattle.ixp_policy.specs.Export.{steered}
use Rattle.ixp_compile.specs.Fragment.{receive_name}
use Rattle.ixp_compile.specs.Shared.{padded}

-- `rx_N` is whether the receiver's rules let the route in, whose path begins with the sender's number
abbrev pub LetsIn : Router → Session → Known → Type 0
LetsIn router receiver k =
    (route : Route) → route.net.family ≡ router.family
    → k.call (receive_name receiver.interface.number) [] route
    ≡ returns (value.Bool (receives receiver.rules route.net (first_of route.path))) route

-- the route with the path's first number so many times more in front, if it is passed on
abbrev pub passed_on : Option ℕ → Route → End
passed_on None route = rejects
passed_on (Some times) route = accepts (padded times route)

-- how often, if it is: the receiver's rules let it in, and its communities send it
abbrev pub times_down : Router → Session → Route → Option ℕ
times_down router receiver route =
    if receives receiver.rules route.net (first_of route.path)
    then steered router.asn.0 route receiver.member.asn.0 else None
