use Rattle.ixp_desk_lock.proofs.Closing.{keeps_store}
use Rattle.ixp_desk_lock.proofs.locked.Locked.into_store.Goals as goal

pub returns : goal.returns
returns g c = keeps_store c.args.self c.self.inside.pen c.self.inside.owed c.self.inside.state c.self.inside.pending (g.P.Keeper.table c.self.inside.keeper) (g.P.Keeper.faults c.self.inside.keeper) c.self.inside.counts.items
    c.self.view_is c.self.invariant.0 c.self.invariant.1 c.self.invariant.2
