-- The line of a route that a session of a route server brings.
use Rattle.std.specs.Prelude.{◌≡◌, ◌<◌, ◌^◌, ◌+◌, ◌⊎◌, ℕ, true, List, [], ◌∷◌, ◌++◌, codes, Result, Ok, Err}
use Rattle.ixp_lang.specs.declared.route.Route.{Route}
use Rattle.ixp_lang.specs.RouteAnswers.{RouteAnswer}
use Rattle.ixp_num.specs.Forms.{IsDecimal}
use Rattle.ixp_registry.specs.Alphabets.{is_handle}
use Rattle.ixp_eval_trial.specs.declared.fault.RouteCode.{RouteCode}
use Rattle.ixp_eval_trial.specs.declared.fault.RouteCode.TheVariants as code
use Rattle.ixp_eval_trial.specs.declared.fault.TrialFault.{TrialFault}
use Rattle.ixp_eval_trial.specs.declared.fault.TrialFault.TheVariants as fault
use Rattle.ixp_eval_trial.specs.declared.session_route.SessionRoute.{SessionRoute}
use Rattle.ixp_eval_trial.specs.Trials.{IsNoRouteText}

-- `route <handle> <interface> <route>`: a router's handle, the number of an interface, and the text of a
-- route, with single blanks
pub record IsSessionLine (line handle : List ℕ) (interface : ℕ) (text : List ℕ) : Type 0 where
  pub number : List ℕ
  pub whole : line ≡ codes "route " ++ (handle ++ 32 ∷ (number ++ 32 ∷ text))
  pub is_router : is_handle handle ≡ true
  pub is_number : IsDecimal number interface
  pub is_low : interface < 2 ^ 32

-- the line says the route and who brings it
abbrev pub SaysRoute : List ℕ → List ℕ → ℕ → Route → Type 0
SaysRoute line router interface route =
    (text : List ℕ) × IsSessionLine line router interface text × RouteAnswer text (Ok route)

-- why a line says no route: it isn't of the form, or what it has for a route's text is none
abbrev pub SaysNoRoute : List ℕ → RouteCode → Type 0
SaysNoRoute line c =
    (((handle : List ℕ) (interface : ℕ) (text : List ℕ) → ¬ (IsSessionLine line handle interface text))
    × (c ≡ code.Text))
    ⊎ ((handle : List ℕ) × (interface : ℕ) × (text : List ℕ) × IsSessionLine line handle interface text
    × IsNoRouteText text c)

-- What lines are, of which the first has this number: one line that says a route. Where there is none, or
-- another one after it, that is the place; running out of memory is free.
abbrev pub SessionRouteAnswer : List (List ℕ) → ℕ → Result SessionRoute TrialFault → Type 0
SessionRouteAnswer ls first (Ok s) =
    (line : List ℕ) × (ls ≡ line ∷ []) × SaysRoute line s.router s.interface s.route × (s.line ≡ first)
SessionRouteAnswer ls first (Err (fault.BadLine n)) = ⊥
SessionRouteAnswer ls first (Err (fault.BadRoute n c)) =
    ((ls ≡ []) × (n ≡ first) × (c ≡ code.Text))
    ⊎ ((line : List ℕ) × (after : List (List ℕ)) × (ls ≡ line ∷ after) × SaysNoRoute line c × (n ≡ first))
    ⊎ ((line second router : List ℕ) × (interface : ℕ) × (route : Route) × (after : List (List ℕ))
    × (ls ≡ line ∷ second ∷ after) × SaysRoute line router interface route × (n ≡ first + 1)
    × (c ≡ code.Text))
SessionRouteAnswer ls first (Err fault.NoMemory) = Unit {0}
