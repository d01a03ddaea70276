-- What the readers of single lines answer.
use Rattle.std.specs.Prelude.{◌≤◌, ℕ, List, Option, Some, None, Result, Ok, Err}
use Rattle.ixp_num.specs.declared.roa.Roa.{Roa}
use Rattle.ixp_num.specs.Forms.{IsDecimal}
use Rattle.ixp_num.specs.Answers.{AsnAnswer, PrefixAnswer}
use Rattle.ixp_lang.specs.declared.route.Route.{Route}
use Rattle.ixp_lang.specs.RouteAnswers.{RouteAnswer}
use Rattle.ixp_eval_trial.specs.declared.fault.Misfit.{Misfit}
use Rattle.ixp_eval_trial.specs.declared.fault.Misfit.TheVariants as misfit
use Rattle.ixp_eval_trial.specs.declared.fault.Unread.{Unread}
use Rattle.ixp_eval_trial.specs.declared.fault.Unread.TheVariants as unread
use Rattle.ixp_eval_trial.specs.declared.session_route.SessionRoute.{SessionRoute}
use Rattle.ixp_eval_trial.specs.SessionRoutes.{SaysRoute, SaysNoRoute}
use Rattle.ixp_eval_trial.specs.Trials.{IsRoaLine, IsRouteLine, IsNoRoute, IsNoRouteText}

-- a decimal number of at most so much
abbrev pub IsUpTo : ℕ → List ℕ → ℕ → Type 0
IsUpTo most t n = IsDecimal t n × (n ≤ most)

-- of 8 bits
abbrev pub IsMax : List ℕ → ℕ → Type 0
IsMax t n = IsUpTo 255 t n

-- the three fields say the ROA
abbrev pub SayRoa : List ℕ → List ℕ → List ℕ → Roa → Type 0
SayRoa net max asn roa = PrefixAnswer net (Ok roa.prefix) × IsMax max roa.max × AsnAnswer asn (Ok roa.asn)

abbrev pub RoaFieldsAnswer : List ℕ → List ℕ → List ℕ → Option Roa → Type 0
RoaFieldsAnswer net max asn (Some roa) = SayRoa net max asn roa
RoaFieldsAnswer net max asn None = (roa : Roa) → ¬ (SayRoa net max asn roa)

abbrev pub RoaLineAnswer : List ℕ → Result (List ℕ × Roa) Unread → Type 0
RoaLineAnswer line (Ok p) = IsRoaLine line p.0 p.1
RoaLineAnswer line (Err unread.Bad) = (table : List ℕ) (roa : Roa) → ¬ (IsRoaLine line table roa)
RoaLineAnswer line (Err unread.NoMemory) = Unit {0}

abbrev pub RouteTextAnswer : List ℕ → Result Route Misfit → Type 0
RouteTextAnswer text (Ok route) = RouteAnswer text (Ok route)
RouteTextAnswer text (Err (misfit.Bad code)) = IsNoRouteText text code
RouteTextAnswer text (Err misfit.NoMemory) = Unit {0}

abbrev pub RouteLineAnswer : List ℕ → Result (List ℕ × Route) Misfit → Type 0
RouteLineAnswer line (Ok p) = (text : List ℕ) × IsRouteLine line p.0 text × RouteAnswer text (Ok p.1)
RouteLineAnswer line (Err (misfit.Bad code)) = IsNoRoute line code
RouteLineAnswer line (Err misfit.NoMemory) = Unit {0}

abbrev pub SessionLineAnswer : List ℕ → Result SessionRoute Misfit → Type 0
SessionLineAnswer line (Ok s) = SaysRoute line s.router s.interface s.route
SessionLineAnswer line (Err (misfit.Bad code)) = SaysNoRoute line code
SessionLineAnswer line (Err misfit.NoMemory) = Unit {0}
