use Rattle.ixp_glass_holds.proofs.Formed.{read_formed}
use Rattle.ixp_test_glass.proofs.Formed.{one_more}
use Rattle.ixp_test_glass.proofs.routes.put_route.Goals as goal

pub returns-in-Ok : goal.returns-in-Ok
returns-in-Ok c =
    one_more c.args.routes.now c.push.new.self c.in-Ok.route c.push.result c.requires (read_formed c.as_bytes.result.now c.in-Ok.route c.in-Ok.ensures) c.push.ensures.ok
