use Rattle.ixp_http.proofs.next.fill_body.Goals as goal

pub returns-clause-still : goal.returns-clause-still
returns-clause-still g c = c.loop-buf.invariant.still

pub returns-clause-bounded : goal.returns-clause-bounded
returns-clause-bounded g c = c.loop-buf.invariant.bounded
