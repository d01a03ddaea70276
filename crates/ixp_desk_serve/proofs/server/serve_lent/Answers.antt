use Rattle.ixp_desk_serve.proofs.Ended.{loaded, served}
use Rattle.ixp_desk_serve.proofs.server.serve_lent.Goals as goal

pub returns-in-Ok-clause-ends : goal.returns-in-Ok-clause-ends
returns-in-Ok-clause-ends g c = served _ _ _ _ _ _ _ _ _ _ c.serve_desk-end.result.0 (loaded _ _ _ _ c.in-Ok.desk c.in-Ok.ensures.opens) c.serve_desk-end.ensures.ends c.serve_desk-end.ensures.store
