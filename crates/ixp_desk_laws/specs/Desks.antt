-- Calls of a desk: where a member's call stands in the history that its seat has seen, and what counts as its
-- answer.
use Rattle.std.specs.Prelude.{◌≡◌, ℕ, List, ◌∷◌, ◌++◌, Some, Result, Ok, Err}
use mathlib.Core.List.{IsPrefix}
use Rattle.ixp_registry.specs.declared.members.Owner.TheVariants.{Member}
use Rattle.ixp_members.specs.Owners.{owner_of}
use Rattle.ixp_machine.specs.declared.decision.Reply.{Reply}
use Rattle.ixp_board.specs.Histories.{entries}
use Rattle.ixp_desk_history.specs.declared.turn.First.{First}
use Rattle.ixp_desk_history.specs.declared.turn.Text.{Text}
use Rattle.ixp_desk_history.specs.declared.turn.Turn.{Turn}
use Rattle.ixp_desk_history.specs.Turns.{registry_of}
use Rattle.ixp_desk_lock.specs.declared.fault.AskFault.{AskFault}
use Rattle.ixp_desk_lock.specs.declared.fault.AskFault.TheVariants as ask
use Rattle.ixp_desk_lock.specs.declared.fault.SubmitFault.{SubmitFault}
use Rattle.ixp_desk_lock.specs.declared.fault.SubmitFault.TheVariants as submit
use Rattle.ixp_desk_lock.specs.Calls.{Grows}
use Rattle.ixp_desk_lock.specs.Sights.{Sight}

-- The call's own turn, which has the seat's count at its start for number, comes right after these turns in
-- the history that the seat has seen at the return.
pub record IsAfter (f : First) (before : List Turn) (s t : Sight) : Type 0 where
  pub grows : Grows s t
  pub turn : Turn
  pub after : List Turn
  pub is : t.2 ≡ entries f (before ++ turn ∷ after)
  pub seat : turn.seat ≡ s.0
  pub number : turn.number ≡ s.1

-- the call has such a place
abbrev pub HasPlace : Sight → Sight → Type 0
HasPlace s t = (f : First) × ((before : List Turn) × IsAfter f before s t)

-- the secret is one of the member's there
pub record IsOf (m : ℕ) (secret : List ℕ) (f : First) (before : List Turn) (s t : Sight) : Type 0 where
  pub place : IsAfter f before s t
  pub own : owner_of (registry_of f before) secret ≡ Some (Member m)

-- The secret is one of the member's as long as the call lasts: in each history between that which the seat
-- had seen and that which it has seen at the return.
abbrev pub StaysOf : ℕ → List ℕ → Sight → Sight → Type 0
StaysOf m secret s t = (f : First) (ts : List Turn) → IsPrefix s.2 (entries f ts)
    → IsPrefix (entries f ts) t.2
    → owner_of (registry_of f ts) secret ≡ Some (Member m)

-- An answer: the edit was made or is refused. A fault of the store, running out of memory, and a seat whose
-- turns can't be counted are none.
abbrev pub IsDecided : Result Reply SubmitFault → Type 0
IsDecided (Ok reply) = Unit {0}
IsDecided (Err (submit.Refused x)) = Unit {0}
IsDecided (Err x) = ⊥

-- an answer to a question
abbrev pub IsTold : {A : Type 0} → Result A AskFault → Type 0
IsTold (Ok a) = Unit {0}
IsTold (Err (ask.Refused x)) = Unit {0}
IsTold (Err ask.NoSession) = Unit {0}
IsTold (Err x) = ⊥

-- texts but for the count of their version
abbrev pub SameText : Result Text AskFault → Result Text AskFault → Type 0
SameText (Ok t) (Ok u) = (t.bytes ≡ u.bytes) × (t.roas ≡ u.roas)
SameText x y = x ≡ y
