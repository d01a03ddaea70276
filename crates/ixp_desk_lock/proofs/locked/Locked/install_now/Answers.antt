use Rattle.ixp_desk_lock.proofs.Installs.{upto_if}
use Rattle.ixp_desk_lock.proofs.locked.Locked.install_now.Goals as goal

pub returns-clause-upto : goal.returns-clause-upto
returns-clause-upto g c = upto_if c.install_made.result c.args.self.now.0 c.install_made.new.self.0 c.in_ok-made.made.upto c.install_made.ensures.upto c.in_ok-made.ensures.upto c.install_made.ensures.accepted
