-- The lock's value may go to other threads. The check states so of most types by itself, in a module beside
-- each; here it is shown of those types of which it doesn't, from their fields, in order.
use denote.RattleType.{RattleType}
use denote.Param.Send.{IsSend, sendable}
use denote.Param.SendFields.{declared_send, as_row_send}
use denote.Struct.Field.{row_field}
use Rattle.std.proofs.Crossing.{crosses}
use Rattle.std.specs.contracts.option.Option as Option
use Rattle.ixp_num_tables.specs.contracts.held.Held as Held
use Rattle.ixp_num_tables.proofs.held.Held.TheSendSync as HeldSends
use Rattle.ixp_io.specs.declared.keeper.Keeper
use Rattle.ixp_machine_steps.proofs.state.State.TheSendSync as StateSends
use Rattle.ixp_build_pending.proofs.pending.Pending.TheSendSync as PendingSends
use Rattle.ixp_build_touches.specs.contracts.touch.Reached as Reached
use Rattle.ixp_build_touches.proofs.touch.Reached.TheSendSync as ReachedSends
use Rattle.ixp_board.specs.declared.front.BoardName
use Rattle.ixp_board.specs.contracts.pen.Pen as Pen
use Rattle.ixp_board.proofs.pen.Pen.TheSendSync as PenSends
use Rattle.ixp_desk_history.proofs.turn.Shown.TheSendSync as ShownSends
use Rattle.ixp_desk_history.specs.contracts.turn.Event as Event
use Rattle.ixp_desk_history.specs.contracts.turn.Shown as Shown
use Rattle.ixp_desk_history.specs.contracts.turn.First as First
use Rattle.ixp_desk_history.specs.contracts.turn.Turn as Turn
use Rattle.ixp_desk_history.specs.contracts.story.DeskStory as DeskStory
use Rattle.ixp_desk_history.specs.contracts.story.DeskStoryStory.TheImpl as story
use Rattle.ixp_desk_lock.specs.contracts.exporting.KeptExport as KeptExport
use Rattle.ixp_desk_lock.specs.contracts.owed.Owed as Owed
use Rattle.ixp_desk_lock.specs.contracts.locked.Locked as Locked
use Rattle.ixp_desk_lock.specs.contracts.locked.Locked.TheInside as Inside
use Rattle.ixp_desk_lock.proofs.exporting.KeptExport.TheSendSync as ExportSends

pub event_send : IsSend Event.the_row
event_send = search (crosses, sendable) depth 30 fits 5000

pub view_sends : IsSend (Held.the_row Shown.the_row)
view_sends = HeldSends.the_send Shown.the_row ShownSends.the_send ShownSends.the_sync

pub turn_send : IsSend Turn.the_row
turn_send = declared_send Turn.the_type (search sendable, (search sendable, (event_send, (view_sends, tt))))

reached_send : IsSend (Option.the_row Reached.the_row)
reached_send = search (ReachedSends.the_send, sendable) depth 12

pub export_send : IsSend (Option.the_row KeptExport.the_row)
export_send = search (ExportSends.the_send, sendable) depth 12

owed_send : IsSend Owed.the_row
owed_send = declared_send Owed.the_type (turn_send, (reached_send, tt))

owing_send : IsSend (Option.the_row Owed.the_row)
owing_send = search (owed_send, sendable) depth 12

pub pen_send : (N W : RattleType) (g : BoardName.Ghosts N.Denot) → IsSend W → IsSend (Pen.the_row DeskStory.the_row N W First.the_row Turn.the_row (Held.the_row Shown.the_row) story.ghosts g)
pen_send N W g w = PenSends.the_send DeskStory.the_row N W First.the_row Turn.the_row (Held.the_row Shown.the_row) story.ghosts g w view_sends

module _ (P N W : RattleType) (k : Keeper.Ghosts P.Denot) (g : BoardName.Ghosts N.Denot) (p : IsSend P) (w : IsSend W) where
  inside_send : IsSend (Inside.the_row P N W k g)
  inside_send = declared_send (Inside.the_type P N W k g)
      (search crosses, (StateSends.the_send, (PendingSends.the_send, (export_send, (search (crosses, sendable) depth 20, (owing_send, (pen_send N W g w, (as_row_send (row_field P) p, tt))))))))

  pub locked_send : IsSend (Locked.the_row P N W k g)
  locked_send = search (inside_send, sendable) depth 10
