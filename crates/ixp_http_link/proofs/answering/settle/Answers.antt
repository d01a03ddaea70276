use Rattle.ixp_io.specs.Faults.{Rose}
use Rattle.ixp_io.specs.Told.{Takes}
use Rattle.ixp_http_link.proofs.Settled.{settled_err}
use Rattle.ixp_http_link.proofs.answering.settle.Goals as goal

pub returns-in-Err-clause-settles : goal.returns-in-Err-clause-settles
returns-in-Err-clause-settles g c = λ rest.
    let out = g.K.Stream in
    settled_err g.D.Desk.turn c.args.answered (c.args.desk.now, c.args.store.now, c.args.clock.now) (c.outcome_of-outcome.new.desk, c.outcome_of-outcome.new.store, c.outcome_of-outcome.new.clock) c.args.request.now rest c.outcome_of-outcome.result
    c.is_last-closes.result (Takes (out.written c.args.output.now) (out.written c.tell.new.output))
    (Rose (out.write_faults c.args.output.now) (out.write_faults c.tell.new.output)) c.in-Err.end
    c.outcome_of-outcome.ensures.becomes c.is_last-closes.ensures c.in-Err.ensures.tells
