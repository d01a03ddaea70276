-- A desk that is opened.
use Rattle.std.specs.Prelude.{◌≡◌, ℕ, List, [], get_or}
use Rattle.ixp_board.specs.Histories.{entries}
use Rattle.ixp_machine_steps.specs.declared.state.State.{State}
use Rattle.ixp_build.specs.Bundles.{IsOf, built_of, made_of}
use Rattle.ixp_desk_history.specs.declared.turn.First.{First}
use Rattle.ixp_desk_history.specs.declared.turn.Shown.{Shown}
use Rattle.ixp_desk_lock.specs.Facts.{Log}

-- the history without turns that begins with the state, and with this count of the store's faults
abbrev pub BeginsAt : State → ℕ → Log → Type 0
BeginsAt s faults log = (first : First) × (log ≡ entries first []) × (s ≡ first.state)
    × (faults ≡ first.faults)

-- no seat has made a turn
abbrev pub AllZero : List ℕ → Type 0
AllZero counts = (seat : ℕ) → get_or counts seat 0 ≡ 0

-- what readers see first: all texts of the state, none of which was made for an installation
pub record ShowsFirst (s : State) (v : Shown) : Type 0 where
  pub accepted : v.accepted ≡ s.accepted
  pub keys : v.keys ≡ s.registry.keys
  pub texts : IsOf v.bundle s.registry
  pub built : built_of v.bundle ≡ s.accepted
  pub made : made_of v.bundle ≡ 0
