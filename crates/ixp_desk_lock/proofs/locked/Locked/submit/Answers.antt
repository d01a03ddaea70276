use Rattle.ixp_desk_lock.proofs.OwnTurns.{submits_from}
use Rattle.ixp_desk_lock.proofs.locked.Locked.submit.Goals as goal

pub returns-clause-turns : goal.returns-clause-turns
returns-clause-turns g c = submits_from c.args.entry c.edit.result c.args.seat.now c.compare.new.seat c.edit.new.seat c.compare.ensures.looks c.edit.ensures.turns
