use Rattle.std.proofs.Common.{arith}
use Rattle.ixp_machine_refusals.proofs.Afters.{prefixes_after}
use Rattle.ixp_machine_refusals.proofs.after.prefixes_with_list.Goals as goal

pub overflow_sub-result : goal.overflow_sub-result
overflow_sub-result c =
    let e = prefixes_after c.args.registry.now c.args.member c.args.family c.args.prefixes.now c.requires.valid.irr.order in
    let old = c.list_length-old.ensures.length in
    let was = c.requires.prefixes in
    omega (arith, e, old, was)

pub returns : goal.returns
returns c =
    let e = prefixes_after c.args.registry.now c.args.member c.args.family c.args.prefixes.now c.requires.valid.irr.order in
    let old = c.list_length-old.ensures.length in
    let was = c.requires.prefixes in
    omega (arith, e, old, was)
