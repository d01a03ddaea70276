-- How a member's status may change.
use Rattle.std.specs.Prelude.{Bool, true, false}
use Rattle.ixp_registry.specs.declared.members.Status.{Status}
use Rattle.ixp_registry.specs.declared.members.Status.TheVariants.{Noted, Connected, Suspended, Left}

-- a noted member is connected, a connected one suspended, a suspended one connected again, and each of the
-- three may leave; a member that has left stays so
abbrev pub may_move : Status → Status → Bool
may_move Noted Connected = true
may_move Connected Suspended = true
may_move Suspended Connected = true
may_move Noted Left = true
may_move Connected Left = true
may_move Suspended Left = true
may_move Noted Noted = false
may_move Noted Suspended = false
may_move Connected Noted = false
may_move Connected Connected = false
may_move Suspended Noted = false
may_move Suspended Suspended = false
may_move Left Noted = false
may_move Left Connected = false
may_move Left Suspended = false
may_move Left Left = false
