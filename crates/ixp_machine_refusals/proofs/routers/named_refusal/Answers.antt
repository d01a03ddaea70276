use Rattle.std.proofs.Common.{ap, ◌∙◌}
use Rattle.ixp_registry.specs.declared.router.Router.{Router}
use Rattle.ixp_machine_edits.specs.Tests.{first_refused}
use Rattle.ixp_machine_refusals.specs.Columns.{placed_tests}
use Rattle.ixp_machine_refusals.proofs.routers.named_refusal.Goals as goal

pub returns : goal.returns
returns c = c.new_refusal.ensures ∙ ap (λ (q : Router). first_refused (placed_tests c.args.registry.now q)) c.router_of-router.ensures
