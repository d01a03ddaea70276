-- Turns that a call makes in one hold of the lock.
use Rattle.std.specs.Prelude.{◌≡◌, ◌+◌, List, [], ◌++◌, map, length, Option, None}
use Rattle.ixp_board.specs.Histories.{turns_of, IsViewOf}
use Rattle.ixp_machine_steps.specs.declared.state.State.{State}
use Rattle.ixp_build_pending.specs.declared.pending.Pending.{Pending}
use Rattle.ixp_build_pending.specs.declared.touch.Touch.{Touch}
use Rattle.ixp_build_pending.specs.Pendings.{IsListed}
use Rattle.ixp_build.specs.declared.making.Made.{Made}
use Rattle.ixp_build.specs.Bundles.{built_of}
use Rattle.ixp_build.specs.Orders.{made_from, order_of}
use Rattle.ixp_desk_history.specs.declared.turn.Event.{Event}
use Rattle.ixp_desk_history.specs.declared.turn.Shown.{Shown}
use Rattle.ixp_desk_history.specs.declared.turn.Turn.{Turn}
use Rattle.ixp_desk_history.specs.declared.turn.Event.TheVariants.{Install}
use Rattle.ixp_desk_history.specs.Legal.{Legal}
use Rattle.ixp_desk_history.specs.Turns.{shown_after, turns_by}
use Rattle.ixp_desk_lock.specs.Calls.{Mine, turned}
use Rattle.ixp_desk_lock.specs.Facts.{Log, HasBuilt, ShowsInstalled, WasOrdered}
use Rattle.ixp_desk_lock.specs.Sights.{Sight}

-- nothing is owed, the seat has seen the whole history, and its count is that of its turns
pub record Level (v : Log × Option Turn) (s : Sight) : Type 0 where
  pub none : v.1 ≡ None
  pub whole : s.2 ≡ v.0
  pub count : s.1 ≡ turns_by s.0 (turns_of v.0)

-- these turns of the seat were added to what it had seen, and no others
pub record Adds (Does : List Event → Type 0) (s t : Sight) : Type 0 where
  pub turns : List Turn
  pub now : t.2 ≡ s.2 ++ turned turns
  pub mine : Mine s.0 s.1 turns
  pub number : t.0 ≡ s.0
  pub count : t.1 ≡ s.1 + length turns
  pub does : Does (map (λ x. x.event) turns)

-- the one, and then the other
abbrev pub Both : (List Event → Type 0) → (List Event → Type 0) → List Event → Type 0
Both One Two vs = (xs : List Event) × (ys : List Event) × (vs ≡ xs ++ ys) × One xs × Two ys

-- no turn
abbrev pub NoTurns : List Event → Type 0
NoTurns vs = vs ≡ []

-- texts were made of all that is pending
pub record CatchesUp (s : State) (p : Pending) (v : Shown) (m : Made) : Type 0 where
  pub texts : Touch
  pub listed : IsListed p texts
  pub made : m ≡ made_from (order_of (built_of v.bundle) s.accepted s.registry texts)

-- the turn of a seat installs texts, made of an order that was taken of the version that is shown
pub record IsInstallation (log : Log) (m : Made) (s : Sight) (t : Turn) : Type 0 where
  pub seat : t.seat ≡ s.0
  pub number : t.number ≡ s.1
  pub event : t.event ≡ Install m.upto
  pub ordered : WasOrdered log m
  pub from : HasBuilt log m.from
  pub shown : Shown
  pub is_shown : IsViewOf Legal shown_after log shown
  pub shows : ShowsInstalled shown m t.view
