use Rattle.std.proofs.Common.{arith}
use Rattle.ixp_test_board.proofs.Adding.{may_add}
use Rattle.ixp_test_board.proofs.desk.Desk.owe.Goals as goal

pub invariant_of-self : goal.invariant_of-self
invariant_of-self g c = may_add (λ n. n) c.self.inside.pen c.view.result.now c.args.turn c.view.ensures (omega arith)
