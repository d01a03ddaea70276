use Rattle.ixp_compile_laws.proofs.Generating.{text_there}
use Rattle.ixp_compile_laws.proofs.router_text.text_of.Goals as goal

pub returns-in-Ok : goal.returns-in-Ok
returns-in-Ok c = text_there c.args.registry.now c.args.router.now c.in-Ok.text c.in-Ok.ensures
