-- Routes that were read are well formed.
use Rattle.std.proofs.Common.{◌≡◌, ℕ, zero, suc, ◌+◌, List, [], ◌∷◌, false, Option, Some, None, Ok, Err, subst, arith}
use Rattle.std.specs.List.{All, AllByRecursion}
use Rattle.serde_json.specs.Data.{Data, Items, no_items, item}
use Rattle.serde_json.specs.Find.{as_str}
use Rattle.ixp_lang.specs.declared.route.Route.{Route}
use Rattle.ixp_lang.specs.declared.reading.fault.RouteFault.{RouteFault}
use Rattle.ixp_lang.specs.declared.reading.fault.RouteFault.TheVariants as fault
use Rattle.ixp_lang.specs.RouteAnswers.{RouteAnswer}
use Rattle.ixp_lang.proofs.RouteAnswerLaws.{one_route}
use Rattle.ixp_api_bodies.specs.Each.{Each}
use Rattle.ixp_api_bodies.specs.Values.{TextSays}
use Rattle.ixp_api_bodies.specs.Routes.{SaysRouteText, RouteAt, IsWellFormed, is_memory}

-- a text that has a fault is no route's
pub no_route : (t : List ℕ) (f : RouteFault) → is_memory f ≡ false → RouteAnswer t (Err f) → SaysRouteText t None
no_route t fault.NoMemory free faulty r spelt = cc
no_route t (fault.Text at) free faulty r spelt = let same = one_route t (Ok r) (Err (fault.Text at)) (λ e. cc) (λ e. cc) spelt faulty in cc
no_route t fault.Family free faulty r spelt = let same = one_route t (Ok r) (Err fault.Family) (λ e. cc) (λ e. cc) spelt faulty in cc
no_route t (fault.Set at) free faulty r spelt = let same = one_route t (Ok r) (Err (fault.Set at)) (λ e. cc) (λ e. cc) spelt faulty in cc
no_route t (fault.TooLong at) free faulty r spelt = let same = one_route t (Ok r) (Err (fault.TooLong at)) (λ e. cc) (λ e. cc) spelt faulty in cc

text_formed : (text : Option (List ℕ)) (r : Route) → TextSays SaysRouteText text (Some r) → IsWellFormed r
text_formed None r says = cc
text_formed (Some t) r says = (says.1, says.2)

route_formed : (place : ℕ) (d : Data) (r : Route) → RouteAt place d (Ok r) → IsWellFormed r
route_formed place d r (None, says, is) = cc
route_formed place d r (Some x, says, is) =
    let same : x ≡ r = cc in subst IsWellFormed same (text_formed (as_str d) x says)

routes_formed : (place : ℕ) (ds : Items) (rs : List Route) → Each RouteAt place ds (Ok rs) → AllByRecursion IsWellFormed rs
routes_formed place no_items [] says = tt
routes_formed place no_items (r ∷ rs) says = cc
routes_formed place (item d ds) rs (Err f, first, rest) = cc
routes_formed place (item d ds) rs (Ok x, first, (Err f, more, is)) = cc
routes_formed place (item d ds) [] (Ok x, first, (Ok xs, more, is)) = cc
routes_formed place (item d ds) (r ∷ rs) (Ok x, first, (Ok xs, more, is)) =
    let head : x ≡ r = cc in
    let tail : xs ≡ rs = cc in
    (subst IsWellFormed head (route_formed place d x first), subst (λ (z : List Route). AllByRecursion IsWellFormed z) tail (routes_formed (place + 1) ds xs more))

at_each : (rs : List Route) → AllByRecursion IsWellFormed rs → All IsWellFormed rs
at_each [] all k d inside = absurd (omega arith)
at_each (r ∷ rs) all zero d inside = all.0
at_each (r ∷ rs) all (suc k) d inside = at_each rs all.1 k d (omega arith)

pub all_well_formed : (ds : Items) (rs : List Route) → Each RouteAt 0 ds (Ok rs) → All IsWellFormed rs
all_well_formed ds rs says = at_each rs (routes_formed 0 ds rs says)
