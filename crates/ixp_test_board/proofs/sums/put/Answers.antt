use Rattle.std.proofs.Common.{arith}
use Rattle.ixp_test_board.proofs.Adding.{may_add}
use Rattle.ixp_test_board.proofs.sums.put.Goals as goal

pub put-requires : goal.put-requires
put-requires g c = may_add g.T.Adds.number_of c.args.pen.now c.view.result.now c.args.turn.now c.view.ensures (omega arith)
