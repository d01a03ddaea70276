-- How it is told what becomes of a route, and which turns of the seat stand in the desk's history for it.
use Rattle.std.specs.Prelude.{◌≡◌, ◌⊎◌, ℕ, Bool, true, false, List, ◌++◌, Result, Ok, Err, Some}
use Rattle.ixp_registry.specs.declared.refusal.Refusal.TheVariants.{Denied}
use Rattle.ixp_registry.specs.Sessions.{session}
use Rattle.ixp_lang.specs.Texts.{fate_text}
use Rattle.ixp_policy.specs.Fates.{fate_of}
use Rattle.ixp_explain.specs.Texts.{own_text}
use Rattle.ixp_explain_member.specs.declared.explanation.Explanation.{Explanation}
use Rattle.ixp_explain_member.specs.declared.explanation.Explanation.TheVariants as explanation
use Rattle.ixp_explain_member.specs.Explanations.{told_by}
use Rattle.ixp_explain_member.specs.Rows.{own_report_by_rows}
use Rattle.ixp_machine_steps.specs.declared.state.State.{State}
use Rattle.ixp_board.specs.Histories.{entries}
use Rattle.ixp_desk_history.specs.declared.turn.First.{First}
use Rattle.ixp_desk_history.specs.declared.turn.Text.{Text}
use Rattle.ixp_desk_history.specs.declared.turn.Turn.{Turn}
use Rattle.ixp_desk_history.specs.Answers.{IsOwnText}
use Rattle.ixp_desk_history.specs.Turns.{state_of}
use Rattle.ixp_desk_lock.specs.declared.fault.AskFault.{AskFault}
use Rattle.ixp_desk_lock.specs.declared.fault.AskFault.TheVariants as ask
use Rattle.ixp_desk_lock.specs.declared.fault.PubFault.{PubFault}
use Rattle.ixp_desk_lock.specs.declared.fault.PubFault.TheVariants as pub_fault
use Rattle.ixp_desk_lock.specs.Calls.{Grows, OwnTexts}
use Rattle.ixp_desk_lock.specs.Facts.{Log}
use Rattle.ixp_desk_lock.specs.Sights.{Sight}
use Rattle.ixp_desk.specs.Publications.{Answers, IsPublished}
use Rattle.ixp_api_replies.specs.declared.outcome.Outcome.{Outcome}
use Rattle.ixp_api_replies.specs.declared.outcome.Outcome.TheVariants as outcome
use Rattle.ixp_api.specs.declared.call.ExplainCall.{ExplainCall}

abbrev pub fault_outcome : PubFault → Outcome
fault_outcome (pub_fault.Refused x) = outcome.Refused x
fault_outcome (pub_fault.SeenUnknown n) = outcome.SeenUnknown n
fault_outcome pub_fault.NoRouter = outcome.NoRouter
fault_outcome (pub_fault.SeatCount seat kept) = outcome.SeatCount seat kept
fault_outcome (pub_fault.Ended n) = outcome.Ended n
fault_outcome pub_fault.NoMemory = outcome.NoMemory

-- an explanation as an outcome
abbrev pub explanation_outcome : Explanation → Outcome
explanation_outcome (explanation.Text text) = outcome.Text text
explanation_outcome (explanation.Refused x) = outcome.Refused x
explanation_outcome explanation.NoRouter = outcome.NoRouter
explanation_outcome explanation.NoSession = outcome.NoSession

-- this, or out of memory
abbrev pub OrNoMemory : Outcome → Outcome → Type 0
OrNoMemory says o = (o ≡ says) ⊎ (o ≡ outcome.NoMemory)

-- by a configuration: the route's fate, as the rules over the rows of its version say it
abbrev pub staff_says : {before now : Log} {text : Text} → (call : ExplainCall)
    → IsPublished before now call.router text → Outcome
staff_says call p = explanation_outcome
    (told_by (λ s. fate_text (fate_of p.registry p.router call.asked.route s)
    (Some p.router.asn)) p.router call.asked.route
    (session p.registry p.router call.interface))

-- by a session's own text of this state: what the rules over its rows say of the member's own route
abbrev pub member_says : {st : State} {text : Text} → (call : ExplainCall)
    → IsOwnText st call.router call.interface text → Outcome
member_says {st} call x = explanation_outcome
    (told_by (λ s. own_text
    (own_report_by_rows st.registry x.router s call.asked.route call.asked.peers)) x.router call.asked.route
    (Some x.sender))

abbrev pub own_fault : AskFault → Outcome
own_fault (ask.Refused x) = outcome.Refused x
own_fault ask.NoSession = outcome.NoSession
own_fault (ask.SeatCount seat kept) = outcome.SeatCount seat kept
own_fault (ask.Ended n) = outcome.Ended n
own_fault ask.NoMemory = outcome.NoMemory

-- A state of the history, of which this is the session's own text.
pub record OwnTextIn (log : Log) (handle : List ℕ) (n : ℕ) (text : Text) : Type 0 where
  pub first : First
  pub before : List Turn
  pub after : List Turn
  pub is : log ≡ entries first (before ++ after)
  pub own : IsOwnText (state_of first before) handle n text

-- a member's session's own text is asked for, and by it the member is told
abbrev pub OwnTold : ExplainCall → Result Text AskFault → Outcome → Log → Type 0
OwnTold call (Ok text) o log =
    (x : OwnTextIn log call.router call.interface text) × OrNoMemory (member_says call x.own) o
OwnTold call (Err fault) o log = o ≡ own_fault fault

abbrev pub OwnTurn : ExplainCall → Outcome → Sight → Sight → Type 0
OwnTurn call o s t = (r : Result Text AskFault) × OwnTexts call.secret call.router call.interface r s t
    × OwnTold call r o t.2

-- X1: who asks is a member
abbrev pub is_denied : PubFault → Bool
is_denied (pub_fault.Refused (Denied right)) = true
is_denied x = false

abbrev pub ExplainsElse : Bool → ExplainCall → PubFault → Outcome → Sight → Sight → Type 0
ExplainsElse true call x o u t = OwnTurn call o u t
ExplainsElse false call x o u t = (t ≡ u) × (o ≡ fault_outcome x)

-- What is told once a configuration was asked for: to the staff by it, to a member by its session's own text.
abbrev pub Explains : ExplainCall → Result Text PubFault → Outcome → Sight → Sight → Sight → Type 0
Explains call (Ok text) o s u t =
    (t ≡ u) × ((p : IsPublished s.2 u.2 call.router text) × OrNoMemory (staff_says call p) o)
Explains call (Err x) o s u t = ExplainsElse (is_denied x) call x o u t

-- `u` is what the seat has seen once a configuration was asked for
abbrev pub ExplainTurn : ExplainCall → Outcome → Sight → Sight → Type 0
ExplainTurn call o s t =
    (u : Sight) × Grows s u × Grows u t × ((r : Result Text PubFault)
    × Answers call.secret call.router call.seen r s u × Explains call r o s u t)
