use Rattle.ixp_board_bench.proofs.Turns.{may_follow}
use Rattle.ixp_board_bench.proofs.board.turn.Goals as goal

pub put-requires : goal.put-requires
put-requires g c = may_follow (λ first turns. first) c.args.pen.now c.view-view.result.now _ c.view-view.ensures
