use Rattle.std.proofs.Common.{ap, ◌∙◌, arith}
use Rattle.ixp_registry.specs.Words.{router_weight}
use Rattle.ixp_machine_edits.specs.Routers.{with_settings}
use Rattle.ixp_machine_refusals.specs.declared.change.Change.TheVariants.{Routers}
use Rattle.ixp_machine_refusals.specs.declared.parts.Part.TheVariants.{InVlan}
use Rattle.ixp_machine_refusals.specs.Parts.{part_weight}
use Rattle.ixp_machine_refusals.proofs.Afters.{settings_after}
use Rattle.ixp_machine_refusals.proofs.after.weight_with_settings.Goals as goal

pub shifted-requires-clause-enough : goal.shifted-requires-clause-enough
shifted-requires-clause-enough c =
    let r = c.args.registry.now in
    let p = c.args.router.now in
    let e = settings_after r c.args.handle.now p c.args.settings.now c.requires.valid.routers.order c.requires.there in
    let more = c.settings_weight-more.ensures.weight p in
    let less = c.router_weight-less.ensures.weight in
    let is = ap (λ n. part_weight r (Routers (record { vlan = p.vlan; family = p.family; more = n; less = c.router_weight-less.result })) (InVlan p.vlan) r.interfaces) more
    ∙ ap (λ n. part_weight r (Routers (record { vlan = p.vlan; family = p.family; more = router_weight (with_settings c.args.settings.now p); less = n })) (InVlan p.vlan) r.interfaces) less in
    let was = c.requires.weight in
    omega (arith, e, was, is)

pub returns : goal.returns
returns c =
    let r = c.args.registry.now in
    let p = c.args.router.now in
    let e = settings_after r c.args.handle.now p c.args.settings.now c.requires.valid.routers.order c.requires.there in
    let more = c.settings_weight-more.ensures.weight p in
    let less = c.router_weight-less.ensures.weight in
    let is = ap (λ n. part_weight r (Routers (record { vlan = p.vlan; family = p.family; more = n; less = c.router_weight-less.result })) (InVlan p.vlan) r.interfaces) more
    ∙ ap (λ n. part_weight r (Routers (record { vlan = p.vlan; family = p.family; more = router_weight (with_settings c.args.settings.now p); less = n })) (InVlan p.vlan) r.interfaces) less in
    let was = c.requires.weight in
    let done = c.shifted.ensures in
    omega (arith, e, was, is, done)
