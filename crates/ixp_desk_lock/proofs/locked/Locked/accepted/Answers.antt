use Rattle.ixp_desk_lock.proofs.Owing.{has_accepted}
use Rattle.ixp_desk_lock.proofs.locked.Locked.accepted.Goals as goal

pub returns : goal.returns
returns g c = has_accepted c.args.self.now c.self.inside.pen c.self.inside.owed c.self.inside.state c.self.inside.pending c.self.view_is c.requires.none c.self.invariant.1
