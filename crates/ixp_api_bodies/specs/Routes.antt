-- Routes that a session is known to announce, in a body.
use Rattle.std.specs.Prelude.{◌≡◌, ℕ, List, Bool, true, false, Option, Some, None, Result, Ok, Err, option_and_then}
use Rattle.serde_json.specs.Data.{Data, Items}
use Rattle.serde_json.specs.Find.{as_str, as_array}
use Rattle.ixp_lang.specs.declared.route.Route.{Route}
use Rattle.ixp_lang.specs.declared.reading.fault.RouteFault.{RouteFault}
use Rattle.ixp_lang.specs.declared.reading.fault.RouteFault.TheVariants as fault
use Rattle.ixp_lang.specs.RouteAnswers.{RouteAnswer, IsOfOneFamily}
use Rattle.ixp_lang.specs.RouteTexts.{IsBounded}
use Rattle.ixp_api_json.specs.declared.field.Field.TheVariants as field
use Rattle.ixp_api_json.specs.declared.pointer.CallFault.{CallFault}
use Rattle.ixp_api_json.specs.declared.pointer.CallFault.TheVariants.{BadBody}
use Rattle.ixp_api_json.specs.declared.pointer.Pointer.TheVariants.{At, Item}
use Rattle.ixp_api_bodies.specs.Answers.{must, ThenSays}
use Rattle.ixp_api_bodies.specs.Each.{Each}
use Rattle.ixp_api_bodies.specs.Values.{field as value_at, long_object_of, TextSays}

-- the route whose text this is, or no route has this text
abbrev pub SaysRouteText : List ℕ → Option Route → Type 0
SaysRouteText t (Some r) = RouteAnswer t (Ok r)
SaysRouteText t None = (r : Route) → ¬ (RouteAnswer t (Ok r))

-- a route of the list, as a text, at its place from 0
abbrev pub RouteAt : ℕ → Data → Result Route CallFault → Type 0
RouteAt place d r = (o : Option Route) × TextSays SaysRouteText (as_str d) o
    × (r ≡ must (Item field.Routes place) o)

abbrev pub RoutesBy : Option Items → Result (List Route) CallFault → Type 0
RoutesBy None r = r ≡ Err (BadBody (At field.Routes))
RoutesBy (Some ds) r = Each RouteAt 0 ds r

abbrev pub RoutesIn : Data → Result (List Route) CallFault → Type 0
RoutesIn d r = RoutesBy (option_and_then as_array (value_at field.Routes d)) r

-- The routes that a body has, or what is wrong with it: the body as a whole, its list, or the first text that
-- is no route's.
abbrev pub SaysRoutes : List ℕ → Result (List Route) CallFault → Type 0
SaysRoutes body r = ThenSays (long_object_of body) RoutesIn r

-- numbers and lists are within their bounds, and net and next hop are of one family
abbrev pub IsWellFormed : Route → Type 0
IsWellFormed r = IsBounded r × IsOfOneFamily r

-- ---- for private clauses

abbrev pub is_memory : RouteFault → Bool
is_memory (fault.Text at) = false
is_memory fault.Family = false
is_memory (fault.Set at) = false
is_memory (fault.TooLong at) = false
is_memory fault.NoMemory = true
