use denote.Exit.{yes}
use denote.Param.{param}
use denote.Param.Send.{param_sync, arg_sync}
use Rattle.ixp_test_desk.proofs.Crossing.{working_sync}
use Rattle.ixp_test_desk.proofs.workers.goes_on.Goals as goal

pub both-requires-sync-T : goal.both-requires-sync-T
both-requires-sync-T g c κs within =
    param_sync _ _ (arg_sync _ yes _ (working_sync (param 2 g.row.P) (param 1 g.row.N) (param 3 g.row.W) g.P.Keeper g.N.BoardName c.type_bounds.send-P c.type_bounds.send-W c.type_bounds.send-N c.type_bounds.sync-N _ _))
