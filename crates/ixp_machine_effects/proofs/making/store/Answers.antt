use Rattle.ixp_machine_effects.proofs.Storing.{saves}
use Rattle.ixp_machine_effects.proofs.making.store.Goals as goal

pub returns-clause-saved : goal.returns-clause-saved
returns-clause-saved g c =
    saves c.args.batch.now (g.P.Keeper.table c.args.keeper.now) (g.P.Keeper.table c.commit.new.self) (g.P.Keeper.faults c.args.keeper.now) (g.P.Keeper.faults c.commit.new.self) c.commit.result
    c.commit.ensures.made c.commit.ensures.kept c.commit.ensures.counts c.commit.ensures.cause c.commit.ensures.answered
