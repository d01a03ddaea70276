use Rattle.std.proofs.Common.{◌∙◌, sym}
use Rattle.ixp_api_bodies.proofs.WellFormed.{no_route}
use Rattle.ixp_api_bodies.proofs.routes.route_of.Goals as goal

pub returns-else-is_memory : goal.returns-else-is_memory
returns-else-is_memory c = no_route c.args.text.now c.in-Err.fault (sym c.is_memory.ensures ∙ c.if-is_memory.false) c.in-Err.ensures
