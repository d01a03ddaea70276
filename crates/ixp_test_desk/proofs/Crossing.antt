-- What two threads share may be used by both.
use denote.RattleType.{RattleType}
use denote.Ref.{NamedLft}
use denote.Param.Send.{IsSend, IsSync, sendable}
use denote.Param.SendFields.{declared_sync}
use Rattle.std.proofs.Crossing.{crosses}
use Rattle.ixp_io.specs.declared.keeper.Keeper
use Rattle.ixp_board.specs.declared.front.BoardName
use Rattle.ixp_desk_lock.specs.contracts.locked.Locked as Locked
use Rattle.ixp_desk_lock.specs.contracts.seat.DeskSeat as DeskSeat
use Rattle.ixp_desk_lock.proofs.Sends.{locked_send}
use Rattle.ixp_desk_lock.proofs.seat.DeskSeat.TheSendSync as SeatSends
use Rattle.ixp_desk.specs.contracts.shared.Shared as Shared
use Rattle.std.specs.contracts.sync.Mutex as Mutex
use Rattle.ixp_test_desk.specs.contracts.held.Editing as Editing
use Rattle.ixp_test_desk.specs.contracts.held.Working as Working

module _ (P N W : RattleType) (k : Keeper.Ghosts P.Denot) (g : BoardName.Ghosts N.Denot) (p : IsSend P) (w : IsSend W) (n : IsSend N) (m : IsSync N) where
  lock_sync : IsSync (Mutex.the_row (Locked.the_row P N W k g))
  lock_sync = search (locked_send, crosses, sendable) depth 12

  shared_sync : IsSync (Shared.the_row P N W k g)
  shared_sync = search (lock_sync, crosses, sendable) depth 20

  seat_send : IsSend (DeskSeat.the_row N g)
  seat_send = search (SeatSends.the_send, crosses, sendable) depth 12

  seat_sync : IsSync (Mutex.the_row (DeskSeat.the_row N g))
  seat_sync = search (seat_send, crosses, sendable) depth 12

  pub editing_sync : (a b : NamedLft) → IsSync (Editing.the_row a b P N W k g)
  editing_sync a b = declared_sync (Editing.the_type a b P N W k g)
      (search (crosses, sendable) depth 20, (search (shared_sync, sendable) depth 12, (search (seat_sync, sendable) depth 12, (search (seat_sync, sendable) depth 12, (search (crosses, sendable) depth 20, tt)))))

  pub working_sync : (a b : NamedLft) → IsSync (Working.the_row a b P N W k g)
  working_sync a b = declared_sync (Working.the_type a b P N W k g)
      (search (crosses, sendable) depth 20, (search (shared_sync, sendable) depth 12, (search (seat_sync, sendable) depth 12, (search (seat_sync, sendable) depth 12, (search (crosses, sendable) depth 20, (search (crosses, sendable) depth 12, tt))))))
