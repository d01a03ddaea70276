use Rattle.ixp_desk.proofs.WorkTurns.{works_if}
use Rattle.ixp_desk.proofs.working.worker_turn.Goals as goal

pub returns-in-Ordered-clause-ok : goal.returns-in-Ordered-clause-ok
returns-in-Ordered-clause-ok g c = works_if c.in-Ordered.order c.in_ok-built.field-0 c.finish.result c.args.seat.now c.take_order-taken.new.seat c.finish.new.seat c.in-Ordered.is c.take_order-taken.ensures.number
    c.take_order-taken.ensures.seen c.is_legal.ensures c.is_legal-2.ensures c.in_ok-built.ensures.taken c.finish.ensures.grows c.finish.ensures.ok
