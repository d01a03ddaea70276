-- How the calls of a link are answered, and which turns of its seats stand in the desk's history, and in that
-- of the routes that sessions hold, for them.
use Rattle.std.specs.Prelude.{◌≡◌, ℕ, List, Option, Result, Ok, Err, IfOk}
use mathlib.Core.List.{IsPrefix}
use Rattle.ixp_io.specs.Told.{Told}
use Rattle.ixp_machine_steps.specs.declared.state.Entry.{Entry}
use Rattle.ixp_machine.specs.declared.decision.Reply.{Reply}
use Rattle.ixp_machine.specs.declared.question.Answer.{Answer}
use Rattle.ixp_machine.specs.declared.question.Query.{Query}
use Rattle.ixp_machine.specs.declared.question.Query.TheVariants as query
use Rattle.ixp_desk_history.specs.declared.turn.Text.{Text}
use Rattle.ixp_desk_lock.specs.declared.fault.AskFault.{AskFault}
use Rattle.ixp_desk_lock.specs.declared.fault.AskFault.TheVariants as ask
use Rattle.ixp_desk_lock.specs.declared.fault.PubFault.{PubFault}
use Rattle.ixp_desk_lock.specs.declared.fault.SubmitFault.{SubmitFault}
use Rattle.ixp_desk_lock.specs.declared.fault.SubmitFault.TheVariants as submit
use Rattle.ixp_desk_lock.specs.Calls.{Asks, Grows, Submits}
use Rattle.ixp_desk_lock.specs.Sights.{Sight}
use Rattle.ixp_desk.specs.Publications.{Answers, IsPublished}
use Rattle.ixp_desk_explain.specs.Explanations.{ExplainTurn, fault_outcome}
use Rattle.ixp_desk_explain.specs.Glass.{GlassTurn, HoldTurn, PlaceTurn, Sights}
use Rattle.ixp_api_replies.specs.declared.outcome.Outcome.{Outcome}
use Rattle.ixp_api_replies.specs.declared.outcome.Outcome.TheVariants as outcome
use Rattle.ixp_api.specs.declared.call.Call.{Call}
use Rattle.ixp_api.specs.declared.call.Call.TheVariants.{Edit, Ask, Published, Explain, Hold, Glass, GlassPlace}

-- Edits.

abbrev pub edit_outcome : Result Reply SubmitFault → Outcome
edit_outcome (Ok reply) = outcome.Done reply.number
edit_outcome (Err (submit.Refused x)) = outcome.Refused x
edit_outcome (Err submit.KeeperFault) = outcome.KeeperFault
edit_outcome (Err (submit.SeatCount seat kept)) = outcome.SeatCount seat kept
edit_outcome (Err (submit.Ended n)) = outcome.Ended n
edit_outcome (Err submit.NoMemory) = outcome.NoMemory

-- an edit is submitted, and its answer told
abbrev pub EditTurn : Entry → Outcome → Sight → Sight → Type 0
EditTurn e o s t = (r : Result Reply SubmitFault) × (o ≡ edit_outcome r) × Submits e r s t

-- Questions.

abbrev pub answer_outcome : Result Answer AskFault → Outcome
answer_outcome (Ok a) = outcome.Answered a
answer_outcome (Err (ask.Refused x)) = outcome.Refused x
answer_outcome (Err ask.NoSession) = outcome.NoSession
answer_outcome (Err (ask.SeatCount seat kept)) = outcome.SeatCount seat kept
answer_outcome (Err (ask.Ended n)) = outcome.Ended n
answer_outcome (Err ask.NoMemory) = outcome.NoMemory

abbrev pub AskTurn : List ℕ → Query → Outcome → Sight → Sight → Type 0
AskTurn secret q o s t = (r : Result Answer AskFault) × (o ≡ answer_outcome r) × Asks secret q r s t

-- a question at a second, which the export alone has
abbrev pub at_second : ℕ → Query → Query
at_second second (query.Ixf old) = query.Ixf second
at_second second (query.Member m) = query.Member m
at_second second (query.Contacts m) = query.Contacts m
at_second second (query.Rules m) = query.Rules m
at_second second (query.Use vlan f) = query.Use vlan f
at_second second query.Dump = query.Dump

-- For the export the clock is asked, and gives this second; for another question it isn't.
abbrev pub AsksClock : Query → ℕ → Option ℕ → Option ℕ → Type 0
AsksClock (query.Ixf old) second given given' = Told given given' (λ before last. last ≡ second)
AsksClock q second given given' = given' ≡ given

-- a question is asked at the clock's second, and its answer told
abbrev pub TimedTurn : List ℕ → Query → Option ℕ → Option ℕ → Outcome → Sight → Sight → Type 0
TimedTurn secret q given given' o s t =
    (second : ℕ) × AsksClock q second given given' × AskTurn secret (at_second second q) o s t

-- Configurations.

abbrev pub text_outcome : Result Text PubFault → Outcome
text_outcome (Ok text) = outcome.Text text.bytes
text_outcome (Err fault) = fault_outcome fault

-- A configuration is handed out: the headline holds of it.
abbrev pub ConfigTurn : List ℕ → List ℕ → Option ℕ → Outcome → Sight → Sight → Type 0
ConfigTurn secret handle seen o s t =
    (r : Result Text PubFault) × (o ≡ text_outcome r) × Answers secret handle seen r s t
    × IfOk r (IsPublished s.2 t.2 handle)

-- All calls.

-- What a call of a link does: what its seats have seen grows, and their turns and the answer are those of the
-- call. The looking glass is asked by its own calls alone, and the clock for the export alone.
abbrev pub LinkTurn : Sights × Option ℕ → Call → Outcome → Sights × Option ℕ → Type 0
LinkTurn d (Edit entry) o e = Grows d.0.0 e.0.0 × EditTurn entry o d.0.0 e.0.0 × (e.0.1 ≡ d.0.1) × (e.1 ≡ d.1)
LinkTurn d (Ask secret q) o e = Grows d.0.0 e.0.0 × TimedTurn secret q d.1 e.1 o d.0.0 e.0.0 × (e.0.1 ≡ d.0.1)
LinkTurn d (Published secret handle seen) o e =
    Grows d.0.0 e.0.0 × ConfigTurn secret handle seen o d.0.0 e.0.0 × (e.0.1 ≡ d.0.1) × (e.1 ≡ d.1)
LinkTurn d (Explain call) o e =
    Grows d.0.0 e.0.0 × ExplainTurn call o d.0.0 e.0.0 × (e.0.1 ≡ d.0.1) × (e.1 ≡ d.1)
LinkTurn d (Hold secret handle n routes) o e =
    Grows d.0.0 e.0.0 × IsPrefix d.0.1 e.0.1 × HoldTurn secret handle n routes o d.0 e.0 × (e.1 ≡ d.1)
LinkTurn d (Glass secret handle n) o e =
    Grows d.0.0 e.0.0 × IsPrefix d.0.1 e.0.1 × GlassTurn secret handle n o d.0 e.0 × (e.1 ≡ d.1)
LinkTurn d (GlassPlace secret handle n place) o e =
    Grows d.0.0 e.0.0 × IsPrefix d.0.1 e.0.1 × PlaceTurn secret handle n place o d.0 e.0 × (e.1 ≡ d.1)

-- the seats have seen more, perhaps
abbrev pub SeesMore : Sights → Sights → Type 0
SeesMore s t = (t.0.0 ≡ s.0.0) × IsPrefix s.0.2 t.0.2 × IsPrefix s.1 t.1
