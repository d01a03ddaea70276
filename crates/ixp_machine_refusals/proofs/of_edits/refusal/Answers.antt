use Rattle.std.proofs.Common.{◌≡◌, ℕ, List, subst, sym}
use Rattle.std.specs.Result.{IfOk}
use Rattle.ixp_machine_edits.specs.declared.edit.Edit.{Edit}
use Rattle.ixp_machine_edits.specs.Edits.{refusal}
use Rattle.ixp_machine_edits.specs.Routers.{new_router, add_router_tests}
use Rattle.ixp_machine_edits.specs.Tests.{first_refused}
use Rattle.ixp_machine_refusals.proofs.of_edits.refusal.Goals as goal

pub returns-in-AddRouter : goal.returns-in-AddRouter
returns-in-AddRouter c =
    let r = c.args.registry.now in
    let i = c.in-AddRouter in
    subst (λ (e : Edit). IfOk c.add_router.result (λ o. o ≡ refusal r e)) (sym i.is)
    (subst (λ (h : List ℕ). IfOk c.add_router.result (λ o. o ≡ first_refused (add_router_tests r (new_router h i.vlan i.family i.address i.settings)))) c.as_slice-in-AddRouter.ensures c.add_router.ensures)
