use denote.Exit.{yes}
use denote.Param.{param}
use denote.Param.Send.{param_sync, arg_sync}
use Rattle.ixp_desk_explain.proofs.Sharing.{glass_sync}
use Rattle.ixp_desk_explain.proofs.crossing.looking_glass_crosses_threads.Goals as goal

pub is_sync-requires-sync-T : goal.is_sync-requires-sync-T
is_sync-requires-sync-T g c κs within =
    param_sync _ _ (arg_sync _ yes _ (glass_sync (param 0 g.row.M) (param 1 g.row.V) g.M.BoardName c.type_bounds.send-V c.type_bounds.send-M c.type_bounds.sync-M))
