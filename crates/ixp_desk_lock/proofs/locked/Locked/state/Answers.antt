use Rattle.ixp_desk_lock.specs.Facts.{turn_in, reach_in}
use Rattle.ixp_desk_lock.proofs.Owing.{state_at, valid_now}
use Rattle.ixp_desk_lock.proofs.locked.Locked.state.Goals as goal

pub returns-clause-state : goal.returns-clause-state
returns-clause-state g c = state_at c.args.self.now c.self.inside.pen c.self.inside.owed c.self.inside.state c.self.inside.pending c.self.view_is c.requires.none c.self.invariant.1

pub returns-clause-valid : goal.returns-clause-valid
returns-clause-valid g c = valid_now c.self.inside.pen (turn_in c.self.inside.owed) (reach_in c.self.inside.owed) c.self.inside.state c.self.inside.pending c.self.invariant.1
