use denote.Exit.{yes}
use denote.Param.{param}
use denote.Param.Send.{param_sync, arg_sync}
use Rattle.ixp_desk_serve.proofs.Crossing.{hosting_sync}
use Rattle.ixp_desk_serve.proofs.server.serve_shared.Goals as goal

pub serve-served-requires-sync-H : goal.serve-served-requires-sync-H
serve-served-requires-sync-H g c κs within =
    param_sync _ _ (arg_sync _ yes _ (hosting_sync (param 3 g.row.P) (param 1 g.row.N) (param 4 g.row.W) g.P.Keeper g.N.BoardName c.type_bounds.send-P c.type_bounds.send-W (param 2 g.row.M) (param 5 g.row.V) g.M.BoardName c.type_bounds.send-V c.type_bounds.send-M c.type_bounds.sync-M _ (param 8 g.row.G) c.type_bounds.sync-G))
