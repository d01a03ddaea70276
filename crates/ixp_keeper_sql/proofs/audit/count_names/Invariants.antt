-- both cursors may be used, and the last commit stands
use Rattle.std.proofs.Common.{IsSome}
use Rattle.ixp_keeper_sql.specs.Written.{KeepsLast}
use Rattle.ixp_keeper_sql.proofs.audit.count_names.Given as goal

abbrev pub invariant-names : goal.invariant-names
invariant-names g l =
    IsSome ((g.S.Store.view l.store).cursors 0)
    × IsSome ((g.S.Store.view l.store).cursors 1)
    × KeepsLast (g.S.Store.view l.fn.store) (g.S.Store.view l.store)
