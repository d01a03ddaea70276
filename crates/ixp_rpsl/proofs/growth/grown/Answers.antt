use Rattle.std.proofs.Common.{◌<◌, ◌≤◌, length, subst}
use Rattle.ixp_rpsl.specs.Lookups.{sets_at}
use Rattle.ixp_rpsl.proofs.Growing.{visited, finished}
use Rattle.ixp_rpsl.proofs.growth.grown.Goals as goal

pub sets-preserved : goal.sets-preserved
sets-preserved c =
    let within : c.sets.at < length c.sets.reached.list = subst (λ n. c.sets.at < n) c.len.ensures c.sets-test.true in
    let step = visited c.args.rows.now c.args.root.now (sets_at c.in_ok-index.index) c.sets.reached.list c.in_ok-reached-2.reached.list c.sets.at
    c.in_ok-index.ensures within c.sets.invariant.begun c.sets.invariant.met c.in_ok-reached-2.ensures.1 in
    record { agrees = c.in_ok-reached-2.ensures.0; room = step.0; begun = step.1; met = step.2 }

pub returns : goal.returns
returns c = finished c.args.rows.now c.args.root.now c.sets.reached.list c.sets.at (subst (λ n. n ≤ c.sets.at) c.len.ensures c.sets-test.false) c.sets.invariant.begun c.sets.invariant.met
