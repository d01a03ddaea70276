use Rattle.ixp_desk.proofs.WorkTurns.{finish_built}
use Rattle.ixp_desk.proofs.working.finish.Goals as goal

pub returns-in-Built-clause-ok : goal.returns-in-Built-clause-ok
returns-in-Built-clause-ok g c = finish_built c.in_ok-made.made c.args.order c.in_ok-upto.field-0 c.in-Built.upto c.args.seat.now c.put_made-put.new.seat c.in_ok-made.ensures c.in-Built.is c.in_ok-upto.ensures.put
