use Rattle.std.proofs.Common.{[], ◌∷◌, false, arith}
use Rattle.ixp_num_tables.specs.Tables.{without}
use Rattle.ixp_registry.specs.Keys.{member_key}
use Rattle.ixp_machine_refusals.proofs.Afters.{members_after}
use Rattle.ixp_machine_refusals.proofs.Lookings.{connected_gone}
use Rattle.ixp_machine_refusals.proofs.by_change.without_member.Goals as goal

pub shifted-requires-clause-enough : goal.shifted-requires-clause-enough
shifted-requires-clause-enough c =
    let r = c.args.registry.now in
    let e = members_after r (without member_key (c.args.member ∷ []) r.members) c.args.member false (λ n. connected_gone c.args.member r.members n) in
    let was = c.requires.weight in
    omega (arith, e, was)

pub returns : goal.returns
returns c =
    let r = c.args.registry.now in
    let e = members_after r (without member_key (c.args.member ∷ []) r.members) c.args.member false (λ n. connected_gone c.args.member r.members n) in
    let was = c.requires.weight in
    let done = c.shifted.ensures in
    omega (arith, e, was, done)
