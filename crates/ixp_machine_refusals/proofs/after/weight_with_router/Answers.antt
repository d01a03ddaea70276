use Rattle.std.proofs.Common.{ap, arith}
use Rattle.ixp_machine_refusals.specs.declared.change.Change.TheVariants.{Routers}
use Rattle.ixp_machine_refusals.specs.declared.parts.Part.TheVariants.{InVlan}
use Rattle.ixp_machine_refusals.specs.Parts.{part_weight}
use Rattle.ixp_machine_refusals.proofs.Afters.{router_after}
use Rattle.ixp_machine_refusals.proofs.after.weight_with_router.Goals as goal

pub shifted-requires-clause-enough : goal.shifted-requires-clause-enough
shifted-requires-clause-enough c =
    let r = c.args.registry.now in
    let q = c.args.router.now in
    let e = router_after r q c.requires.valid.routers.order c.requires.new in
    let is = ap (λ n. part_weight r (Routers (record { vlan = q.vlan; family = q.family; more = n; less = 0 })) (InVlan q.vlan) r.interfaces) c.router_weight-more.ensures.weight in
    let was = c.requires.weight in
    omega (arith, e, was, is)

pub returns : goal.returns
returns c =
    let r = c.args.registry.now in
    let q = c.args.router.now in
    let e = router_after r q c.requires.valid.routers.order c.requires.new in
    let is = ap (λ n. part_weight r (Routers (record { vlan = q.vlan; family = q.family; more = n; less = 0 })) (InVlan q.vlan) r.interfaces) c.router_weight-more.ensures.weight in
    let was = c.requires.weight in
    let done = c.shifted.ensures in
    omega (arith, e, was, is, done)
