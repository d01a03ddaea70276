use Rattle.ixp_desk_lock.proofs.Catching.{catches_so}
use Rattle.ixp_desk_lock.proofs.locked.Locked.catch_up.Goals as goal

pub returns-clause-turns : goal.returns-clause-turns
returns-clause-turns g c = catches_so c.in_ok-upto.upto c.args.seat.now c.level.new.seat c.install_now.new.seat c.install_now.new.self c.level.ensures.looks c.in_ok-upto.ensures.ok c.in_ok-upto.ensures.level c.in_ok-upto.ensures.upto
