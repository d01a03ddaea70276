-- What the lock's type keeps, and what is owed.
--
-- The lock holds the state, what is pending of its texts, each seat's count of turns, the pen of the history,
-- the store, the member export that was made last, and at most one turn that is owed: one that was made and
-- stored, and isn't in the history yet since memory ran out. Three facts are kept, each with the owed turn
-- counted in: the store's rows are the state's (`Stored`), the state and what is pending are those of the
-- history (`Folds`), and so are the counts of faults and of turns (`Counts`). The export is that of the
-- state's registry (`KeepsExport`).
use Rattle.std.specs.Prelude.{◌≡◌, ◌<◌, ◌-◌, ◌^◌, ◌+◌, ℕ, List, [], ◌∷◌, ◌++◌, get_or, Option, Some, None, IfSome}
use mathlib.Core.List.{IsPrefix}
use Rattle.ixp_io.specs.Tables.{Table}
use Rattle.ixp_io.specs.Told.{WhereTold}
use Rattle.ixp_board.specs.declared.entry.Entry.{Entry}
use Rattle.ixp_board.specs.Histories.{entries, with_turn}
use Rattle.ixp_registry.specs.declared.members.Owner.{Owner}
use Rattle.ixp_registry.specs.declared.registry.Registry.{Registry}
use Rattle.ixp_members.specs.Owners.{owner_of}
use Rattle.ixp_machine_edits.specs.Edits.{IsLawful, change}
use Rattle.ixp_registry_change.specs.declared.change.RegistryChange.{RegistryChange}
use Rattle.ixp_registry_change.specs.Changes.{with_change}
use Rattle.ixp_machine_steps.specs.declared.state.Entry as steps
use Rattle.ixp_machine_steps.specs.declared.state.State.{State}
use Rattle.ixp_machine_steps.specs.Steps.{Accepted, verdict}
use Rattle.ixp_machine.specs.declared.decision.Decision.{Decision}
use Rattle.ixp_machine.specs.declared.decision.Decision.TheVariants as decision
use Rattle.ixp_machine.specs.declared.question.Answer.TheVariants.{Json}
use Rattle.ixp_machine.specs.declared.question.Query.TheVariants.{Ixf}
use Rattle.ixp_machine.specs.Decisions.{IsFor, Says}
use Rattle.ixp_machine.specs.Questions.{IsAnswer}
use Rattle.ixp_store_words.specs.Answers.{IsStoreOf}
use Rattle.ixp_store_words.specs.Storing.{IsStorable}
use Rattle.ixp_build_pending.specs.declared.pending.Pending.{Pending}
use Rattle.ixp_build_pending.specs.Pendings.{IsNoted}
use Rattle.ixp_build_touches.specs.declared.touch.Reached.{Reached}
use Rattle.ixp_build_touches.specs.Touched.{reached, with_after}
use Rattle.ixp_build.specs.declared.making.Made.{Made}
use Rattle.ixp_build.specs.Orders.{installed}
use Rattle.ixp_desk_history.specs.declared.turn.Asked.{Asked}
use Rattle.ixp_desk_history.specs.declared.turn.Answered.{Answered}
use Rattle.ixp_desk_history.specs.declared.turn.First.{First}
use Rattle.ixp_desk_history.specs.declared.turn.Shown.{Shown}
use Rattle.ixp_desk_history.specs.declared.turn.Turn.{Turn}
use Rattle.ixp_desk_history.specs.declared.turn.Event.{Event}
use Rattle.ixp_desk_history.specs.declared.turn.Event.TheVariants.{Edit, Question, Install, Fault}
use Rattle.ixp_desk_history.specs.Answers.{IsAnswered}
use Rattle.ixp_desk_history.specs.Legal.{Legal}
use Rattle.ixp_desk_history.specs.Orders.{IsMadeAt}
use Rattle.ixp_desk_history.specs.Touches.{Pends}
use Rattle.ixp_desk_history.specs.Turns.{state_of, registry_of, faults_of, built_after, turns_by}
use Rattle.ixp_desk_lock.specs.declared.exporting.KeptExport.{KeptExport}
use Rattle.ixp_desk_lock.specs.declared.owed.Owed.{Owed}

abbrev pub Log : Type 0
Log = List (Entry First Turn)

-- the turns with the one that is owed
abbrev pub with_owed : List Turn → Option Turn → List Turn
with_owed ts None = ts
with_owed ts (Some t) = ts ++ t ∷ []

-- the history with the turn that is owed
abbrev pub all_of : Log × Option Turn → Log
all_of (log, None) = log
all_of (log, Some t) = with_turn log t

-- The store's rows are those of the state, which can be stored.
abbrev pub Stored : Option Table → State → Type 0
Stored rows s = WhereTold rows (IsStoreOf s) × IsStorable s

-- of what is owed: the turn, and what its edit reached until that is noted
abbrev pub turn_in : Option Owed → Option Turn
turn_in None = None
turn_in (Some o) = Some o.turn

abbrev pub reach_in : Option Owed → Option Reached
reach_in None = None
reach_in (Some o) = o.reached

-- the turns whose touches are noted: all but the one whose reach is owed
abbrev pub noted_turns : List Turn → Option Turn → Option Reached → List Turn
noted_turns ts owed None = with_owed ts owed
noted_turns ts owed (Some x) = ts

-- an edit, of which this was decided
abbrev pub IsEdit : Event → steps.Entry → Decision → Type 0
IsEdit (Edit e d) entry decided = (e.value ≡ entry) × (d.value ≡ decided)
IsEdit (Question q a) entry decided = ⊥
IsEdit (Install upto) entry decided = ⊥
IsEdit (Fault count) entry decided = ⊥

-- an edit that was accepted
abbrev pub Accepts : Event → steps.Entry → Type 0
Accepts v e = (owner : Owner) × IsEdit v e (decision.Accepted owner)

-- what an accepted edit reached, whose turn is owed
abbrev pub IsReach : First → List Turn → Option Turn → Option Reached → Type 0
IsReach f ts owed None = Unit {0}
IsReach f ts None (Some x) = ⊥
IsReach f ts (Some t) (Some x) =
    (e : steps.Entry) × Accepts t.event e × IsLawful e.edit × (verdict (state_of f ts) e ≡ Accepted)
    × (x ≡ reached (registry_of f ts) (change (registry_of f ts) e.edit))

-- The history with the turn that is owed is legal, and the state is the one after it. What is pending is that
-- of the history, with what the owed turn's edit touched once that is noted.
pub record Folds (log : Log) (owed : Option Turn) (reach : Option Reached) (s : State)
    (p : Pending) : Type 0 where
  pub first : First
  pub turns : List Turn
  pub is : log ≡ entries first turns
  pub legal : Legal first (with_owed turns owed)
  pub state : s ≡ state_of first (with_owed turns owed)
  pub reaches : IsReach first turns owed reach
  pub pends : Pends first (noted_turns turns owed reach) p

-- The counts of faults and of each seat's turns are those of the history with the turn that is owed.
pub record Counts (log : Log) (owed : Option Turn) (faults : ℕ) (counts : List ℕ) : Type 0 where
  pub first : First
  pub turns : List Turn
  pub is : log ≡ entries first turns
  pub faults_are : faults ≡ faults_of first (with_owed turns owed)
  pub turns_are : (seat : ℕ) → get_or counts seat 0 ≡ turns_by seat (with_owed turns owed)

-- The export that is kept, if there is one, is what a question for it is answered of this registry.
abbrev pub KeepsExport : Registry → Option KeptExport → Type 0
KeepsExport r kept = IfSome kept (λ x. IsAnswer r (Ixf x.second) (Json x.text))

-- Noting what is owed.

abbrev pub noted_owed : Option Owed → Option Owed
noted_owed None = None
noted_owed (Some o) = Some (record { turn = o.turn; reached = None })

abbrev pub NotesReach : State → Option Reached → Pending → Pending → Type 0
NotesReach s None p q = q ≡ p
NotesReach s (Some x) p q = IsNoted s.accepted (with_after x s.registry) p q

-- A store has the rows of the state after the history and the turn that is owed, and its count of faults is
-- that of the history.
pub record KeepsStore (v : Log × Option Turn) (rows : Option Table) (faults : ℕ) : Type 0 where
  pub first : First
  pub turns : List Turn
  pub is : v.0 ≡ entries first turns
  pub legal : Legal first (with_owed turns v.1)
  pub stored : Stored rows (state_of first (with_owed turns v.1))
  pub faults_are : faults ≡ faults_of first (with_owed turns v.1)

-- Of a history, whichever first state and turns it has.

-- the edit is accepted after this history, for this owner
abbrev pub MayAccept : Log → Owner → steps.Entry → Type 0
MayAccept log owner entry = (f : First) (ts : List Turn) → log ≡ entries f ts
    → IsLawful entry.edit × (owner_of (registry_of f ts) entry.secret ≡ Some owner)
    × (verdict (state_of f ts) entry ≡ Accepted)
    × ((state_of f ts).accepted < 2 ^ 64 - 1)

-- the edit is decided so after this history
abbrev pub IsDecided : Log → steps.Entry → Decision → Type 0
IsDecided log entry d = (f : First) (ts : List Turn) → log ≡ entries f ts
    → Says entry.number (verdict (state_of f ts) entry) d × IsFor (owner_of (registry_of f ts) entry.secret) d

-- so many edits were accepted
abbrev pub HasAccepted : Log → ℕ → Type 0
HasAccepted log n = (f : First) (ts : List Turn) → log ≡ entries f ts → (state_of f ts).accepted ≡ n

-- the texts of this version are shown
abbrev pub HasBuilt : Log → ℕ → Type 0
HasBuilt log n = (f : First) (ts : List Turn) → log ≡ entries f ts → built_after f ts ≡ n

-- more edits can be counted
abbrev pub HasRoom : Log → Type 0
HasRoom log = (f : First) (ts : List Turn) → log ≡ entries f ts → (state_of f ts).accepted < 2 ^ 64 - 1

-- the question is answered so after this history
abbrev pub Replies : Log → Asked → Answered → Type 0
Replies log q a = (f : First) (ts : List Turn) → log ≡ entries f ts → IsAnswered (state_of f ts) q a

-- the state is the one after this history
abbrev pub IsStateAt : Log → State → Type 0
IsStateAt log s = (f : First) (ts : List Turn) → log ≡ entries f ts → s ≡ state_of f ts

-- What a turn is.

abbrev pub IsFault : Event → Type 0
IsFault (Fault count) = Unit {0}
IsFault (Edit e d) = ⊥
IsFault (Question q a) = ⊥
IsFault (Install upto) = ⊥

-- a question, and what was answered
abbrev pub IsQuestion : Asked → Answered → Event → Type 0
IsQuestion q a (Question x y) = (x ≡ q) × (y.value ≡ a)
IsQuestion q a (Edit e d) = ⊥
IsQuestion q a (Install upto) = ⊥
IsQuestion q a (Fault count) = ⊥

-- the history is as before, and a turn of the seat is owed
abbrev pub Owes : Log → Log × Option Turn → ℕ → ℕ → (Event → Type 0) → Type 0
Owes log now seat number Does =
    (t : Turn) × (now ≡ (log, Some t)) × (t.seat ≡ seat) × (t.number ≡ number) × Does t.event

-- What readers see.

-- after the change of an accepted edit
pub record ShowsNext (old : Shown) (s : State) (c : RegistryChange) (new : Shown) : Type 0 where
  pub accepted : new.accepted ≡ s.accepted + 1
  pub keys : new.keys ≡ (with_change s.registry c).keys
  pub bundle : new.bundle ≡ old.bundle

-- after texts are installed
pub record ShowsInstalled (old : Shown) (m : Made) (new : Shown) : Type 0 where
  pub accepted : new.accepted ≡ old.accepted
  pub keys : new.keys ≡ old.keys
  pub bundle : new.bundle ≡ installed old.bundle m

-- these texts were made of all that was pending after this history
pub record IsOrdered (log : Log) (m : Made) : Type 0 where
  pub first : First
  pub turns : List Turn
  pub is : log ≡ entries first turns
  pub made : IsMadeAt first turns m

-- of all that was pending after a beginning of this history
abbrev pub WasOrdered : Log → Made → Type 0
WasOrdered log m = (at : Log) × IsPrefix at log × IsOrdered at m
