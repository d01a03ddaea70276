-- What a looking glass shows, which routes it has held, and which turns of the seats stand in the two
-- histories for that: the desk's, and that of the routes that sessions hold.
use Rattle.std.specs.Prelude.{◌≡◌, ◌⊎◌, ℕ, zero, suc, Bool, true, false, ◌&&◌, List, [], ◌∷◌, ◌++◌, codes, decimal, flat_map, length, Option, Some, None, option_and_then, slice_get, Result, Ok, Err, if◌then◌else◌}
use Rattle.std.specs.declared.alloc.AllocError.{AllocError}
use mathlib.Core.List.{IsPrefix}
use Rattle.ixp_num.specs.declared.family.Family.{Family}
use Rattle.ixp_num.specs.Families.{same_family}
use Rattle.ixp_lang.specs.declared.route.Route.{Route}
use Rattle.ixp_lang.specs.Texts.{fate_text, route_text}
use Rattle.ixp_registry.specs.declared.refusal.Refusal.TheVariants as refusal
use Rattle.ixp_registry.specs.declared.registry.Registry.{Registry}
use Rattle.ixp_registry.specs.declared.router.Router.{Router}
use Rattle.ixp_registry.specs.Sessions.{Session, session}
use Rattle.ixp_policy.specs.Fates.{fate_of}
use Rattle.ixp_explain.specs.declared.report.ExplainFault.{ExplainFault}
use Rattle.ixp_explain.specs.declared.report.ExplainFault.TheVariants as fault
use Rattle.ixp_explain.specs.declared.report.OwnReport.{OwnReport}
use Rattle.ixp_explain.specs.Texts.{own_text}
use Rattle.ixp_explain_member.specs.declared.explanation.Explanation.{Explanation}
use Rattle.ixp_explain_member.specs.declared.explanation.Explanation.TheVariants as explanation
use Rattle.ixp_explain_member.specs.Explanations.{told_by}
use Rattle.ixp_explain_member.specs.Rows.{own_report_by_rows}
use Rattle.ixp_machine_steps.specs.declared.state.State.{State}
use Rattle.ixp_glass_holds.specs.declared.fault.HoldFault.{HoldFault}
use Rattle.ixp_glass_holds.specs.declared.fault.HoldFault.TheVariants as hold
use Rattle.ixp_glass_holds.specs.Calls.{IsHeld, MakesHold, hold_of, Log as HoldLog}
use Rattle.ixp_desk_history.specs.declared.turn.Text.{Text}
use Rattle.ixp_desk_history.specs.Answers.{IsOwnText}
use Rattle.ixp_desk_lock.specs.declared.fault.AskFault.{AskFault}
use Rattle.ixp_desk_lock.specs.declared.fault.AskFault.TheVariants as ask
use Rattle.ixp_desk_lock.specs.declared.fault.PubFault.{PubFault}
use Rattle.ixp_desk_lock.specs.Calls.{Grows, OwnTexts}
use Rattle.ixp_desk_lock.specs.Facts.{Log}
use Rattle.ixp_desk_lock.specs.Sights.{Sight}
use Rattle.ixp_desk.specs.Publications.{Answers, IsPublished}
use Rattle.ixp_api_replies.specs.declared.outcome.Outcome.{Outcome}
use Rattle.ixp_api_replies.specs.declared.outcome.Outcome.TheVariants as outcome
use Rattle.ixp_desk_explain.specs.Explanations.{OwnTextIn, fault_outcome, own_fault}

-- what a caller has seen: of the desk, and of the routes that sessions hold
abbrev pub Sights : Type 0
Sights = Sight × HoldLog

-- Reports of all routes that a session holds.

-- a line for the route, and the lines of its report
abbrev pub report_text : Route → OwnReport → List ℕ
report_text route report = codes "route " ++ (route_text route ++ (codes "\n" ++ own_text report))

-- what the rules over the rows say of each route, for its member
abbrev pub shown_text : Registry → Router → Session → List Route → List ℕ
shown_text r router s routes =
    flat_map (λ route. report_text route (own_report_by_rows r router s route [])) routes

-- the routes are of the family
abbrev pub are_of : Family → List Route → Bool
are_of family [] = true
are_of family (r ∷ rs) = same_family family r.net.family && are_of family rs

-- By a session's own text of this state: what the rules over its rows say of each route; X7 where one of them
-- isn't of the router's family.
abbrev pub routes_say : {st : State} {handle : List ℕ} {n : ℕ} {text : Text} → List Route
    → IsOwnText st handle n text → Outcome
routes_say {st} routes x =
    if are_of x.router.family routes then outcome.Text (shown_text st.registry x.router x.sender routes)
    else outcome.Refused (refusal.Family x.router.family)

-- the same of what a session holds; Z3 where that is nothing
abbrev pub held_say : {st : State} {handle : List ℕ} {n : ℕ} {text : Text} → Option (List Route)
    → IsOwnText st handle n text → Outcome
held_say None x = outcome.NotHeld
held_say (Some routes) x = routes_say routes x

-- The session holds these routes after this history of holds, and it is told what becomes of them; or memory
-- ran out.
abbrev pub Shows : {st : State} {handle : List ℕ} {n : ℕ} {text : Text} → Option (List Route) → HoldLog
    → IsOwnText st handle n text → Outcome → Type 0
Shows {st} {handle} {n} held log x o =
    (IsHeld log handle n held × (o ≡ held_say held x)) ⊎ (o ≡ outcome.NoMemory)

abbrev pub IsShown : {st : State} {handle : List ℕ} {n : ℕ} {text : Text} → HoldLog
    → IsOwnText st handle n text → Outcome → Type 0
IsShown log x o = (held : Option (List Route)) × Shows held log x o

abbrev pub ShowsBy : Option (List Route) → List ℕ → ℕ → Result Text AskFault → Outcome → Log → HoldLog
    → Type 0
ShowsBy held handle n (Ok text) o log holds = (x : OwnTextIn log handle n text) × Shows held holds x.own o
ShowsBy held handle n (Err x) o log holds = o ≡ own_fault x

-- the session's own text is asked for, and by it it is told what becomes of these routes, which the session
-- holds
abbrev pub ShowTurn : Option (List Route) → List ℕ → List ℕ → ℕ → Outcome → Sights → Sights → Type 0
ShowTurn held secret handle n o s t =
    (r : Result Text AskFault) × OwnTexts secret handle n r s.0 t.0 × ShowsBy held handle n r o t.0.2 t.1

abbrev pub GlassTurn : List ℕ → List ℕ → ℕ → Outcome → Sights → Sights → Type 0
GlassTurn secret handle n o s t = (held : Option (List Route)) × ShowTurn held secret handle n o s t

-- What the staff asks of a session that isn't there: of an interface that isn't there either, or of a router
-- that is there no longer, it is told the same.

abbrev pub is_unknown : AskFault → Bool
is_unknown (ask.Refused (refusal.Unknown table key)) = true
is_unknown x = false

abbrev pub session_fault : AskFault → Outcome
session_fault x = if is_unknown x then outcome.NoSession else own_fault x

-- The whole fate of one of them.

abbrev pub version_line : ℕ → List ℕ
version_line built = codes "version " ++ (decimal built ++ codes "\n")

-- an explanation's text stands under the line of its version
abbrev pub fate_outcome : ℕ → Explanation → Outcome
fate_outcome built (explanation.Text text) = outcome.Text (version_line built ++ text)
fate_outcome built (explanation.Refused x) = outcome.Refused x
fate_outcome built explanation.NoRouter = outcome.NoRouter
fate_outcome built explanation.NoSession = outcome.NoSession

-- by a configuration: the route's fate, as the rules over the rows of its version say it, with that version's
-- count
abbrev pub fate_says : {before now : Log} {handle : List ℕ} {text : Text} → ℕ
    → IsPublished before now handle text → Route → Outcome
fate_says {before} {now} {handle} {text} n p route =
    fate_outcome text.built (told_by (λ s. fate_text (fate_of p.registry p.router route s)
    (Some p.router.asn)) p.router route (session p.registry p.router n))

-- the route at a place that is counted from 1
abbrev pub at_place : ℕ → List Route → Option Route
at_place zero routes = None
at_place (suc k) routes = slice_get routes k

-- Z3 where no route stands at the place
abbrev pub place_says : {before now : Log} {handle : List ℕ} {text : Text} → ℕ
    → IsPublished before now handle text → Option Route → Outcome
place_says n p None = outcome.NotHeld
place_says n p (Some route) = fate_says n p route

-- The session holds some routes, or none, after this history of holds, and the fate of the one at the place
-- is told; or memory ran out.
abbrev pub IsFateShown : {before now : Log} {handle : List ℕ} {text : Text} → ℕ → ℕ → HoldLog
    → IsPublished before now handle text → Outcome → Type 0
IsFateShown {before} {now} {handle} n place log p o =
    ((held : Option (List Route)) × IsHeld log handle n held
    × (o ≡ place_says n p (option_and_then (at_place place) held))) ⊎ (o ≡ outcome.NoMemory)

abbrev pub FateBy : {before now : Log} {handle : List ℕ} {text : Text} → ℕ → ℕ
    → IsPublished before now handle text → Result Text AskFault → Outcome → HoldLog → HoldLog → Type 0
FateBy n place p (Ok own) o g h = IsFateShown n place h p o
FateBy n place p (Err x) o g h = (h ≡ g) × (o ≡ session_fault x)

-- the interface has to have a session with the router now, which is told by its own text
abbrev pub SessionTurn : {before now : Log} {handle : List ℕ} {text : Text} → List ℕ → ℕ → ℕ
    → IsPublished before now handle text → Outcome → Sights → Sights → Type 0
SessionTurn {before} {now} {handle} secret n place p o s t =
    (r : Result Text AskFault) × OwnTexts secret handle n r s.0 t.0 × FateBy n place p r o s.1 t.1

abbrev pub PlaceBy : List ℕ → List ℕ → ℕ → ℕ → Result Text PubFault → Outcome → Sights → Sight → Sights
    → Type 0
PlaceBy secret handle n place (Ok text) o s u t =
    (p : IsPublished s.0.2 u.2 handle text) × SessionTurn secret n place p o (u, s.1) t
PlaceBy secret handle n place (Err x) o s u t = (t ≡ (u, s.1)) × (o ≡ fault_outcome x)

-- a configuration is asked for, and by it the fate of the route at the place is told
abbrev pub PlaceTurn : List ℕ → List ℕ → ℕ → ℕ → Outcome → Sights → Sights → Type 0
PlaceTurn secret handle n place o s t =
    (u : Sight) × Grows s.0 u × Grows u t.0 × ((r : Result Text PubFault) × Answers secret handle None r s.0 u
    × PlaceBy secret handle n place r o s u t)

-- What sessions are to hold.

abbrev pub hold_outcome : ℕ → Result (Unit {0}) HoldFault → Outcome
hold_outcome number (Ok done) = outcome.Held number
hold_outcome number (Err (hold.TooMany have limit)) = outcome.TooManyHeld have limit
hold_outcome number (Err (hold.Family place)) = outcome.HeldFamily place
hold_outcome number (Err hold.NoMemory) = outcome.NoMemory

-- the session is made to hold the routes, which are to be of its router's family
abbrev pub Holds : {st : State} {handle : List ℕ} {n : ℕ} {text : Text} → List Route
    → IsOwnText st handle n text → Outcome → HoldLog → HoldLog → Type 0
Holds {st} {handle} {n} routes x o g h =
    (r : Result (Unit {0}) HoldFault) × MakesHold x.router.family (hold_of handle n routes) r g h
    × (o ≡ hold_outcome (length routes) r)

abbrev pub HoldsBy : List ℕ → ℕ → List Route → Result Text AskFault → Outcome → Log → HoldLog → HoldLog
    → Type 0
HoldsBy handle n routes (Ok text) o log g h = (x : OwnTextIn log handle n text) × Holds routes x.own o g h
HoldsBy handle n routes (Err x) o log g h = (h ≡ g) × (o ≡ session_fault x)

abbrev pub HoldsAt : List ℕ → List ℕ → ℕ → List Route → Outcome → Sights → Sights → Type 0
HoldsAt secret handle n routes o s t = (r : Result Text AskFault) × OwnTexts secret handle n r s.0 t.0
    × HoldsBy handle n routes r o t.0.2 s.1 t.1

abbrev pub HoldsElse : List ℕ → List ℕ → ℕ → List Route → Result Text PubFault → Outcome → Sights → Sight
    → Sights → Type 0
HoldsElse secret handle n routes (Ok text) o s u t = HoldsAt secret handle n routes o (u, s.1) t
HoldsElse secret handle n routes (Err x) o s u t = (t ≡ (u, s.1)) × (o ≡ fault_outcome x)

-- The configuration is asked for, which is the staff's to have, then the session's own text; and the session
-- is made to hold the routes.
abbrev pub HoldTurn : List ℕ → List ℕ → ℕ → List Route → Outcome → Sights → Sights → Type 0
HoldTurn secret handle n routes o s t =
    (u : Sight) × Grows s.0 u × Grows u t.0 × ((r : Result Text PubFault) × Answers secret handle None r s.0 u
    × HoldsElse secret handle n routes r o s u t)

-- ---- for private clauses

abbrev pub reports_text : List Route → List OwnReport → List ℕ
reports_text [] reports = []
reports_text (r ∷ rs) [] = []
reports_text (r ∷ rs) (x ∷ xs) = report_text r x ++ reports_text rs xs

abbrev pub text_outcome : Result (List ℕ) AllocError → Outcome
text_outcome (Ok text) = outcome.Text text
text_outcome (Err x) = outcome.NoMemory

abbrev pub unshown : ExplainFault → Outcome
unshown (fault.Family family) = outcome.Refused (refusal.Family family)
unshown x = outcome.NoMemory

abbrev pub IsFamilyFor : List Route → Router → Family → Type 0
IsFamilyFor [] router family = Unit {0}
IsFamilyFor (r ∷ rs) router family = family ≡ router.family

abbrev pub ToldFamily : Result Explanation AllocError → Route → Result Family AllocError → Type 0
ToldFamily (Ok (explanation.Refused (refusal.Family family))) route (Ok f) = f ≡ family
ToldFamily (Ok (explanation.Text text)) route (Ok f) = f ≡ route.net.family
ToldFamily told route (Ok f) = ⊥
ToldFamily told route (Err x) = Unit {0}
