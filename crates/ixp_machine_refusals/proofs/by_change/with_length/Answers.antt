use Rattle.std.proofs.Common.{arith}
use Rattle.ixp_machine_refusals.proofs.Afters.{lists_after}
use Rattle.ixp_machine_refusals.proofs.by_change.with_length.Goals as goal

pub shifted-requires-clause-enough : goal.shifted-requires-clause-enough
shifted-requires-clause-enough c =
    let l = c.requires.some in
    let e = lists_after c.args.registry.now l.0 c.args.member c.args.family c.args.length l.1 in
    let was = c.requires.weight in
    omega (arith, e, was)

pub returns : goal.returns
returns c = λ ls has.
    let e = lists_after c.args.registry.now ls c.args.member c.args.family c.args.length has in
    let was = c.requires.weight in
    let done = c.shifted.ensures in
    omega (arith, e, was, done)
