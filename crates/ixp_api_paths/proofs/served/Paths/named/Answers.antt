use Rattle.std.proofs.Common.{arith}
use Rattle.ixp_api_paths.proofs.Serve.{served-none, served-some}
use Rattle.ixp_api_paths.proofs.served.Paths.named.Goals as goal

pub returns-in-Ok : goal.returns-in-Ok
returns-in-Ok c = served-some c.self.inside.router c.args.path.now _ c.self.invariant.only (λ i. omega (arith, c.type_inv.path i)) c.in-Ok.ensures.found

pub returns-in-Err : goal.returns-in-Err
returns-in-Err c = served-none c.self.inside.router c.args.path.now c.self.invariant.only c.self.invariant.all c.in-Err.ensures.missing
