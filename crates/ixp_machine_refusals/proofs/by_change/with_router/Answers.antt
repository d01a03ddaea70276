use Rattle.std.proofs.Common.{ap, ◌∙◌, arith}
use Rattle.ixp_registry.specs.Words.{router_weight}
use Rattle.ixp_machine_refusals.specs.declared.change.Change.TheVariants.{Routers}
use Rattle.ixp_machine_refusals.specs.declared.parts.Part.TheVariants.{InVlan}
use Rattle.ixp_machine_refusals.specs.Parts.{part_weight}
use Rattle.ixp_machine_refusals.proofs.Afters.{router_put}
use Rattle.ixp_machine_refusals.proofs.by_change.with_router.Goals as goal

pub shifted-requires-clause-enough : goal.shifted-requires-clause-enough
shifted-requires-clause-enough c =
    let r = c.args.registry.now in
    let q = c.args.row.now in
    let e = router_put r q c.requires.valid.routers.order c.requires.place in
    let is = ap (λ n. part_weight r (Routers (record { vlan = q.vlan; family = q.family; more = n; less = c.weight_of_router.result })) (InVlan q.vlan) r.interfaces) c.router_weight.ensures.weight
    ∙ ap (λ n. part_weight r (Routers (record { vlan = q.vlan; family = q.family; more = router_weight q; less = n })) (InVlan q.vlan) r.interfaces) c.weight_of_router.ensures.weight in
    let was = c.requires.weight in
    omega (arith, e, is, was)

pub returns : goal.returns
returns c =
    let r = c.args.registry.now in
    let q = c.args.row.now in
    let e = router_put r q c.requires.valid.routers.order c.requires.place in
    let is = ap (λ n. part_weight r (Routers (record { vlan = q.vlan; family = q.family; more = n; less = c.weight_of_router.result })) (InVlan q.vlan) r.interfaces) c.router_weight.ensures.weight
    ∙ ap (λ n. part_weight r (Routers (record { vlan = q.vlan; family = q.family; more = router_weight q; less = n })) (InVlan q.vlan) r.interfaces) c.weight_of_router.ensures.weight in
    let was = c.requires.weight in
    let done = c.shifted.ensures in
    omega (arith, e, is, was, done)
