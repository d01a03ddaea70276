-- What calls of a seat do: which turns stand in the history for them.
use Rattle.std.specs.Prelude.{◌≡◌, ◌≢◌, ◌≤◌, ◌<◌, ◌-◌, ◌^◌, ◌+◌, ℕ, ⊤, ◌⊎◌, List, [], ◌∷◌, ◌++◌, map, length, Result, Ok, Err}
use mathlib.Core.List.{IsPrefix}
use Rattle.ixp_board.specs.declared.entry.Entry.TheVariants as entry
use Rattle.ixp_board.specs.Histories.{turns_of, IsLegal}
use Rattle.ixp_machine_steps.specs.declared.state.Entry.{Entry}
use Rattle.ixp_machine.specs.declared.decision.Decision.{Decision}
use Rattle.ixp_machine.specs.declared.decision.Decision.TheVariants as decision
use Rattle.ixp_machine.specs.declared.decision.Reply.{Reply}
use Rattle.ixp_machine.specs.declared.question.Answer.{Answer}
use Rattle.ixp_machine.specs.declared.question.Query as machine
use Rattle.ixp_desk_history.specs.declared.turn.Answered.TheVariants as answered
use Rattle.ixp_desk_history.specs.declared.turn.Asked.TheVariants.{Query, OwnText}
use Rattle.ixp_desk_history.specs.declared.turn.Event.{Event}
use Rattle.ixp_desk_history.specs.declared.turn.Event.TheVariants.{Edit, Question, Install, Fault}
use Rattle.ixp_desk_history.specs.declared.turn.Text.{Text}
use Rattle.ixp_desk_history.specs.declared.turn.Turn.{Turn}
use Rattle.ixp_desk_history.specs.Legal.{Legal}
use Rattle.ixp_desk_history.specs.Turns.{turns_by}
use Rattle.ixp_desk_lock.specs.declared.fault.AskFault.{AskFault}
use Rattle.ixp_desk_lock.specs.declared.fault.AskFault.TheVariants as ask
use Rattle.ixp_desk_lock.specs.declared.fault.SubmitFault.{SubmitFault}
use Rattle.ixp_desk_lock.specs.declared.fault.SubmitFault.TheVariants as submit
use Rattle.ixp_desk_lock.specs.declared.fault.TurnFault.{TurnFault}
use Rattle.ixp_desk_lock.specs.declared.fault.TurnFault.TheVariants as turn
use Rattle.ixp_desk_lock.specs.declared.editing.Ending.{Ending}
use Rattle.ixp_desk_lock.specs.declared.editing.Ending.TheVariants as ending
use Rattle.ixp_build.specs.declared.making.Made.{Made}
use Rattle.ixp_build.specs.Orders.{HasBounds, made_from}
use Rattle.ixp_desk_lock.specs.declared.installing.Put.{Put}
use Rattle.ixp_desk_lock.specs.declared.installing.Put.TheVariants as put
use Rattle.ixp_desk_lock.specs.declared.installing.Taken.{Taken}
use Rattle.ixp_desk_lock.specs.declared.installing.Taken.TheVariants as taken
use Rattle.ixp_desk_lock.specs.Facts.{Log, HasAccepted, HasBuilt, HasRoom, IsFault, IsOrdered, IsQuestion}
use Rattle.ixp_desk_lock.specs.Sights.{Sight}

-- The history that a seat has seen begins with all that it had seen, and it is legal.
pub record Grows (s t : Sight) : Type 0 where
  pub number : t.0 ≡ s.0
  pub begins : IsPrefix s.2 t.2
  pub legal : IsLegal Legal t.2

-- these turns are a seat's, numbered from n
abbrev pub Mine : ℕ → ℕ → List Turn → Type 0
Mine seat n [] = ⊤
Mine seat n (t ∷ ts) = (t.seat ≡ seat) × (t.number ≡ n) × Mine seat (n + 1) ts

abbrev pub turned : List Turn → Log
turned ts = map entry.Turn ts

-- A call's own turns: they are numbered from the seat's count, do what is said, and stand after all that the
-- seat had seen. The seat has seen them, and its turns in the history are as many as its count.
pub record Own (Does : List Event → Type 0) (s t : Sight) : Type 0 where
  pub before : Log
  pub turns : List Turn
  pub after : List Turn
  pub seen : IsPrefix s.2 before
  pub now : t.2 ≡ before ++ turned (turns ++ after)
  pub others : turns_by s.0 after ≡ 0
  pub mine : Mine s.0 s.1 turns
  pub count : t.1 ≡ s.1 + length turns
  pub all : t.1 ≡ turns_by t.0 (turns_of t.2)
  pub does : Does (map (λ x. x.event) turns)

-- there is one turn, and it does this
abbrev pub One : (Event → Type 0) → List Event → Type 0
One Does [] = ⊥
One Does (v ∷ []) = Does v
One Does (v ∷ w ∷ vs) = ⊥

-- an edit, of which this was decided
abbrev pub IsEditSo : (Decision → Type 0) → Entry → Event → Type 0
IsEditSo So e (Edit x d) = (x.value ≡ e) × So d.value
IsEditSo So e (Question q a) = ⊥
IsEditSo So e (Install upto) = ⊥
IsEditSo So e (Fault count) = ⊥

-- it was accepted, now or before
abbrev pub WasDone : Decision → Type 0
WasDone (decision.Accepted owner) = Unit {0}
WasDone (decision.Repeated reply) = Unit {0}
WasDone (decision.Refused x) = ⊥

-- The call's own turn does this, where the seat's turns can be counted on, and the accepted edits before it:
-- Y5 is answered where one of them can't, and nowhere else.
pub record OwnEdit (Does : Event → Type 0) (s t : Sight) : Type 0 where
  pub own : Own (One Does) s t
  pub seat : s.1 < 2 ^ 64 - 2
  pub edits : HasRoom own.before

-- what an edit came to
abbrev pub Came : Ending → Entry → Event → Type 0
Came ending.Done e v = IsEditSo WasDone e v
Came (ending.Refused x) e v = IsEditSo (λ d. d ≡ decision.Refused x) e v
Came ending.Fault e v = IsFault v

abbrev pub reply_of : Ending → ℕ → Result Reply SubmitFault
reply_of ending.Done n = Ok (record { number = n })
reply_of (ending.Refused x) n = Err (submit.Refused x)
reply_of ending.Fault n = Err submit.KeeperFault

abbrev pub ending_of : Decision → Ending
ending_of (decision.Accepted owner) = ending.Done
ending_of (decision.Repeated reply) = ending.Done
ending_of (decision.Refused x) = ending.Refused x

-- Y4: the seat's count is another one than that of its turns in the history
pub record OtherCount (seat kept : ℕ) (s t : Sight) : Type 0 where
  pub stays : t.1 ≡ s.1
  pub its : seat ≡ s.1
  pub turns : kept ≡ turns_by t.0 (turns_of t.2)
  pub differ : seat ≢ kept

-- Y5: the seat's turns can't be counted on
pub record SeatEnded (count : ℕ) (s t : Sight) : Type 0 where
  pub stays : t.1 ≡ s.1
  pub all : t.1 ≡ turns_by t.0 (turns_of t.2)
  pub its : count ≡ s.1
  pub last : 2 ^ 64 - 2 ≤ count

-- Y5: the accepted edits can't be counted on
pub record EditsEnded (count : ℕ) (s t : Sight) : Type 0 where
  pub stays : t.1 ≡ s.1
  pub all : t.1 ≡ turns_by t.0 (turns_of t.2)
  pub room : s.1 < 2 ^ 64 - 2
  pub its : HasAccepted t.2 count
  pub last : count ≡ 2 ^ 64 - 1

-- memory ran out: at most one turn was counted
abbrev pub AtMostOne : Sight → Sight → Type 0
AtMostOne s t = (s.1 ≤ t.1) × (t.1 ≤ s.1 + 1)

-- why no turn was made
abbrev pub FaultSays : TurnFault → Sight → Sight → Type 0
FaultSays (turn.SeatCount a b) s t = OtherCount a b s t
FaultSays (turn.Ended n) s t = SeatEnded n s t
FaultSays turn.NoMemory s t = t.1 ≡ s.1

-- What an edit does: one turn, which says what was decided of it, or that the store failed.
abbrev pub Submits : Entry → Result Reply SubmitFault → Sight → Sight → Type 0
Submits e (Ok reply) s t = (reply.number ≡ e.number) × OwnEdit (IsEditSo WasDone e) s t
Submits e (Err (submit.Refused x)) s t = OwnEdit (IsEditSo (λ d. d ≡ decision.Refused x) e) s t
Submits e (Err submit.KeeperFault) s t = OwnEdit IsFault s t
Submits e (Err (submit.SeatCount a b)) s t = OtherCount a b s t
Submits e (Err (submit.Ended n)) s t = SeatEnded n s t ⊎ EditsEnded n s t
Submits e (Err submit.NoMemory) s t = AtMostOne s t

-- What a question does: one turn, which says what was answered.
abbrev pub Asks : List ℕ → machine.Query → Result Answer AskFault → Sight → Sight → Type 0
Asks secret q (Ok a) s t = Own (One (IsQuestion (Query secret q) (answered.Answer a))) s t
Asks secret q (Err (ask.Refused x)) s t = Own (One (IsQuestion (Query secret q) (answered.Refused x))) s t
Asks secret q (Err ask.NoSession) s t = ⊥
Asks secret q (Err (ask.SeatCount a b)) s t = OtherCount a b s t
Asks secret q (Err (ask.Ended n)) s t = SeatEnded n s t
Asks secret q (Err ask.NoMemory) s t = t.1 ≡ s.1

-- What a question for a session's own text does, in the same way.
abbrev pub OwnTexts : List ℕ → List ℕ → ℕ → Result Text AskFault → Sight → Sight → Type 0
OwnTexts secret router n (Ok text) s t =
    Own (One (IsQuestion (OwnText secret router n) (answered.Text text))) s t
OwnTexts secret router n (Err (ask.Refused x)) s t =
    Own (One (IsQuestion (OwnText secret router n) (answered.Refused x))) s t
OwnTexts secret router n (Err ask.NoSession) s t =
    Own (One (IsQuestion (OwnText secret router n) answered.NoSession)) s t
OwnTexts secret router n (Err (ask.SeatCount a b)) s t = OtherCount a b s t
OwnTexts secret router n (Err (ask.Ended k)) s t = SeatEnded k s t
OwnTexts secret router n (Err ask.NoMemory) s t = t.1 ≡ s.1

-- what an installation of all that is pending does: one turn
abbrev pub Catches : Result ℕ TurnFault → Sight → Sight → Type 0
Catches (Ok upto) s t = Own (One (λ v. v ≡ Install upto)) s t × HasAccepted t.2 upto
Catches (Err (turn.SeatCount a b)) s t = OtherCount a b s t
Catches (Err (turn.Ended n)) s t = SeatEnded n s t
Catches (Err turn.NoMemory) s t = t.1 ≡ s.1

-- one turn installs the version `upto`, where the texts of the version `from` were shown just before
abbrev pub InstallsOver : ℕ → ℕ → Sight → Sight → Type 0
InstallsOver from upto s t = (own : Own (One (λ v. v ≡ Install upto)) s t) × HasBuilt own.before from

-- The seat made no turn, and its turns in the history are as many as its count.
abbrev pub MakesNone : Sight → Sight → Type 0
MakesNone s t = (t.1 ≡ s.1) × (t.1 ≡ turns_by t.0 (turns_of t.2))

-- What a worker is given to do: an order that was taken of what the seat has seen, of a later version than
-- the one that is shown; or nothing where that is the present one, which is installed once more.
abbrev pub Takes : Taken → Sight → Sight → Type 0
Takes (taken.Ordered o) s t = MakesNone s t × HasBounds o × (o.from ≢ o.upto) × IsOrdered t.2 (made_from o)
Takes (taken.Nothing built) s t = InstallsOver built built s t × HasAccepted t.2 built

-- What a worker's installation does: one turn, or none where others were installed since the order was taken.
abbrev pub Installs : Made → Put → Sight → Sight → Type 0
Installs m (put.Built upto) s t = (upto ≡ m.upto) × InstallsOver m.from upto s t
Installs m (put.Late current asked) s t =
    MakesNone s t × (asked ≡ m.from) × (current ≢ asked) × HasBuilt t.2 current

-- the history begins with what the seat has seen, its counts agree, and there is room for two turns more
pub record Fits (log : Log) (s : Sight) : Type 0 where
  pub seen : IsPrefix s.2 log
  pub count : s.1 ≡ turns_by s.0 (turns_of log)
  pub room : s.1 < 2 ^ 64 - 2

-- the fault of a call is that of what it did
abbrev pub SameSubmit : TurnFault → SubmitFault → Type 0
SameSubmit (turn.SeatCount a b) f = f ≡ submit.SeatCount a b
SameSubmit (turn.Ended n) f = f ≡ submit.Ended n
SameSubmit turn.NoMemory f = f ≡ submit.NoMemory

abbrev pub SameAsk : TurnFault → AskFault → Type 0
SameAsk (turn.SeatCount a b) f = f ≡ ask.SeatCount a b
SameAsk (turn.Ended n) f = f ≡ ask.Ended n
SameAsk turn.NoMemory f = f ≡ ask.NoMemory
