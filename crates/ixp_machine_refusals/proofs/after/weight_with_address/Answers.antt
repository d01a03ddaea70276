use Rattle.std.proofs.Common.{arith}
use Rattle.ixp_machine_refusals.proofs.Afters.{address_after}
use Rattle.ixp_machine_refusals.proofs.after.weight_with_address.Goals as goal

pub overflow_sub-result : goal.overflow_sub-result
overflow_sub-result c =
    let e = address_after c.args.registry.now c.args.number c.args.family c.args.address.now c.args.interface.now c.requires.valid.interfaces.order c.requires.there in
    let old = c.interface_weight.ensures.weight in
    let new = c.addressed_weight-more.ensures.weight in
    let was = c.requires.weight in
    omega (arith, e, old, new, was)

pub returns : goal.returns
returns c =
    let e = address_after c.args.registry.now c.args.number c.args.family c.args.address.now c.args.interface.now c.requires.valid.interfaces.order c.requires.there in
    let old = c.interface_weight.ensures.weight in
    let new = c.addressed_weight-more.ensures.weight in
    let was = c.requires.weight in
    omega (arith, e, old, new, was)
