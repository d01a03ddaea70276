use Rattle.ixp_desk_lock.proofs.Beginning.{counts_first, folds_first}
use Rattle.ixp_desk_lock.proofs.locked.Locked.new.Goals as goal

pub invariant_of-result : goal.invariant_of-result
invariant_of-result g c = (
  c.requires.stored,
  folds_first c.args.pen c.view-view.result.now c.args.state (g.P.Keeper.faults c.args.keeper) c.new.result c.view-view.ensures c.requires.begins c.new.ensures,
  counts_first c.args.pen c.args.state (g.P.Keeper.faults c.args.keeper) c.args.counts.items c.requires.begins c.requires.counts,
  tt,
)
