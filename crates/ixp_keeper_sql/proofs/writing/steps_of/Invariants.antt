-- both cursors may be used, and the last commit stands
use Rattle.std.proofs.Common.{IsSome}
use Rattle.ixp_keeper_sql.specs.Written.{KeepsLast}
use Rattle.ixp_keeper_sql.proofs.writing.steps_of.Given as goal

abbrev pub invariant-places : goal.invariant-places
invariant-places g l =
    IsSome ((g.S.Store.view l.trees.store).cursors 0)
    × IsSome ((g.S.Store.view l.trees.store).cursors 1)
    × KeepsLast (g.S.Store.view l.fn.trees.store) (g.S.Store.view l.trees.store)
