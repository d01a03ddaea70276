-- What reading a route answers.
use Rattle.std.specs.Prelude.{◌≡◌, ◌-◌, ℕ, List, length, Result, Ok, Err}
use Rattle.ixp_lang.specs.declared.route.Route.{Route}
use Rattle.ixp_lang.specs.declared.reading.fault.RouteFault.{RouteFault}
use Rattle.ixp_lang.specs.declared.reading.fault.RouteFault.TheVariants as fault
use Rattle.ixp_lang.specs.declared.reading.fault.Stop.{Stop}
use Rattle.ixp_lang.specs.declared.reading.fault.Stop.TheVariants as stop
use Rattle.ixp_lang.specs.RouteReading.{ReadsRoute}
use Rattle.ixp_lang.specs.RouteTexts.{IsRouteText, IsBounded}

-- net and next hop are of one family
abbrev pub IsOfOneFamily : Route → Type 0
IsOfOneFamily r = r.net.family ≡ r.next_hop.family

-- The text is the route's, whose numbers and lists are within their bounds. Else net and next hop alone are
-- at odds, or the first field or item that isn't there tells the place.
abbrev pub RouteAnswer : List ℕ → Result Route RouteFault → Type 0
RouteAnswer t (Ok r) = IsRouteText r t × IsBounded r × IsOfOneFamily r
RouteAnswer t (Err fault.Family) = (r : Route) × IsRouteText r t × IsBounded r × ¬ (IsOfOneFamily r)
RouteAnswer t (Err (fault.Text at)) =
    (left : ℕ) × ReadsRoute t (Err (stop.Text left)) × (at ≡ length t - left)
RouteAnswer t (Err (fault.Set at)) = (left : ℕ) × ReadsRoute t (Err (stop.Set left)) × (at ≡ length t - left)
RouteAnswer t (Err (fault.TooLong at)) =
    (left : ℕ) × ReadsRoute t (Err (stop.TooLong left)) × (at ≡ length t - left)
RouteAnswer t (Err fault.NoMemory) = Unit {0}

-- a fault with its place
abbrev pub placed : ℕ → Stop → RouteFault
placed size (stop.Text left) = fault.Text (size - left)
placed size (stop.Set left) = fault.Set (size - left)
placed size (stop.TooLong left) = fault.TooLong (size - left)
placed size stop.NoMemory = fault.NoMemory

-- the route itself, if it is of one family
abbrev pub FamilyAnswer : Route → Result Route RouteFault → Type 0
FamilyAnswer r (Ok s) = (r ≡ s) × IsOfOneFamily r
FamilyAnswer r (Err fault.Family) = ¬ (IsOfOneFamily r)
FamilyAnswer r (Err (fault.Text at)) = ⊥
FamilyAnswer r (Err (fault.Set at)) = ⊥
FamilyAnswer r (Err (fault.TooLong at)) = ⊥
FamilyAnswer r (Err fault.NoMemory) = ⊥
