use Rattle.ixp_desk_lock.specs.Facts.{turn_in, reach_in}
use Rattle.ixp_desk_lock.proofs.Owing.{decided_if, valid_now}
use Rattle.ixp_desk_lock.proofs.locked.Locked.decided.Goals as goal

pub decide-requires : goal.decide-requires
decide-requires g c = valid_now c.self.inside.pen (turn_in c.self.inside.owed) (reach_in c.self.inside.owed) c.self.inside.state c.self.inside.pending c.self.invariant.1

pub returns : goal.returns
returns g c = decided_if c.args.self.now c.self.inside.pen c.self.inside.owed c.self.inside.state c.self.inside.pending c.args.entry.now c.decide.result c.self.view_is c.requires.none c.self.invariant.1 c.decide.ensures.decision c.decide.ensures.owner
