use Rattle.std.proofs.Common.{arith}
use Rattle.ixp_machine_refusals.proofs.Afters.{list_after}
use Rattle.ixp_machine_refusals.proofs.after.weight_with_list.Goals as goal

pub shifted-requires-clause-enough : goal.shifted-requires-clause-enough
shifted-requires-clause-enough c =
    let e = list_after c.args.registry.now c.args.member c.args.family c.args.prefixes.now in
    let was = c.requires.weight in
    omega (arith, e, was)

pub returns : goal.returns
returns c =
    let e = list_after c.args.registry.now c.args.member c.args.family c.args.prefixes.now in
    let was = c.requires.weight in
    let done = c.shifted.ensures in
    omega (arith, e, was, done)
