-- Texts that are ordered at one place of a history and installed at a later one.
use Rattle.std.specs.Prelude.{◌≡◌, ◌++◌, List}
use Rattle.ixp_build.specs.declared.making.Made.{Made}
use Rattle.ixp_build.specs.Orders.{made_from, order_of}
use Rattle.ixp_build_pending.specs.declared.pending.Pending.{Pending}
use Rattle.ixp_build_pending.specs.declared.touch.Touch.{Touch}
use Rattle.ixp_build_pending.specs.Pendings.{IsListed}
use Rattle.ixp_desk_history.specs.declared.turn.First.{First}
use Rattle.ixp_desk_history.specs.declared.turn.Turn.{Turn}
use Rattle.ixp_desk_history.specs.Touches.{Pends}
use Rattle.ixp_desk_history.specs.Turns.{built_after, registry_of, state_of}

-- these texts were made of all that was pending after the turns
pub record IsMadeAt (f : First) (at : List Turn) (m : Made) : Type 0 where
  pub pending : Pending
  pub pends : Pends f at pending
  pub texts : Touch
  pub listed : IsListed pending texts
  pub made : m ≡ made_from (order_of (built_after f at) (state_of f at).accepted (registry_of f at) texts)
