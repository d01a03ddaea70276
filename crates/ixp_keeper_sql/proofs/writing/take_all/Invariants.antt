-- the last commit stands
use Rattle.ixp_keeper_sql.specs.Written.{KeepsLast}
use Rattle.ixp_keeper_sql.proofs.writing.take_all.Given as goal

abbrev pub invariant-loop-step : goal.invariant-loop-step
invariant-loop-step g l =
    KeepsLast (g.S.Store.view l.fn.trees.store) (g.S.Store.view l.trees.store)
