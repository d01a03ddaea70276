use Rattle.ixp_desk_lock.specs.Facts.{turn_in, reach_in}
use Rattle.ixp_desk_lock.proofs.Installs.{made_from_built, made_ordered, made_upto}
use Rattle.ixp_desk_lock.proofs.Owing.{valid_now}
use Rattle.ixp_desk_lock.proofs.locked.Locked.pending_made.Goals as goal

pub make_pending-requires : goal.make_pending-requires
make_pending-requires g c = (valid_now c.self.inside.pen (turn_in c.self.inside.owed) (reach_in c.self.inside.owed) c.self.inside.state c.self.inside.pending c.self.invariant.1).registry

pub returns-clause-ordered : goal.returns-clause-ordered
returns-clause-ordered g c = made_ordered c.args.self.now c.self.inside.pen c.self.inside.owed c.self.inside.state c.self.inside.pending c.view.result.now c.self.view_is c.requires.none c.self.invariant.1 c.view.ensures c.make_pending.result c.make_pending.ensures

pub returns-clause-from : goal.returns-clause-from
returns-clause-from g c = made_from_built c.args.self.now c.self.inside.pen c.self.inside.owed c.self.inside.state c.self.inside.pending c.view.result.now c.self.view_is c.requires.none c.self.invariant.1 c.view.ensures c.make_pending.result c.make_pending.ensures

pub returns-clause-upto : goal.returns-clause-upto
returns-clause-upto g c = made_upto c.args.self.now c.self.inside.pen c.self.inside.owed c.self.inside.state c.self.inside.pending c.view.result.now c.self.view_is c.requires.none c.self.invariant.1 c.view.ensures c.make_pending.result c.make_pending.ensures
