use Rattle.std.proofs.Common.{ap, arith}
use Rattle.ixp_machine_refusals.specs.declared.change.Change.TheVariants.{Routers}
use Rattle.ixp_machine_refusals.specs.declared.parts.Part.TheVariants.{InVlan}
use Rattle.ixp_machine_refusals.specs.Parts.{part_weight}
use Rattle.ixp_machine_refusals.proofs.Afters.{gone_after}
use Rattle.ixp_machine_refusals.proofs.after.weight_without_router.Goals as goal

pub shifted-requires-clause-enough : goal.shifted-requires-clause-enough
shifted-requires-clause-enough c =
    let r = c.args.registry.now in
    let p = c.args.router.now in
    let e = gone_after r c.args.handle.now p c.requires.valid.routers.order c.requires.there in
    let is = ap (λ n. part_weight r (Routers (record { vlan = p.vlan; family = p.family; more = 0; less = n })) (InVlan p.vlan) r.interfaces) c.router_weight-less.ensures.weight in
    let was = c.requires.weight in
    omega (arith, e, was, is)

pub returns : goal.returns
returns c =
    let r = c.args.registry.now in
    let p = c.args.router.now in
    let e = gone_after r c.args.handle.now p c.requires.valid.routers.order c.requires.there in
    let is = ap (λ n. part_weight r (Routers (record { vlan = p.vlan; family = p.family; more = 0; less = n })) (InVlan p.vlan) r.interfaces) c.router_weight-less.ensures.weight in
    let was = c.requires.weight in
    let done = c.shifted.ensures in
    omega (arith, e, was, is, done)
