use denote.Exit.{yes}
use denote.Param.{param}
use denote.Param.Send.{param_send, arg_send}
use Rattle.ixp_desk_lock.proofs.Sends.{locked_send}
use Rattle.ixp_desk_lock.proofs.crossing.locks_cross_threads.Goals as goal

pub is_send-requires-send-T : goal.is_send-requires-send-T
is_send-requires-send-T g c κs within =
    param_send _ _ (arg_send _ yes _ (locked_send (param 0 g.row.P) (param 1 g.row.N) (param 2 g.row.W) g.P.Keeper g.N.BoardName c.type_bounds.send-P c.type_bounds.send-W))
