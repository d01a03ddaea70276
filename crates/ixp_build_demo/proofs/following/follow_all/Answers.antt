use Rattle.std.proofs.Common.{rules, ◌≡◌, ◌+◌, ◌-◌, suc, sym, subst, arith}
use Rattle.ixp_build_demo.proofs.AfterRequests.{Following, follows_on}
use Rattle.ixp_build_demo.proofs.following.follow_all.Goals as goal

pub each-preserved : goal.each-preserved
each-preserved c =
    let more : c.each.left ≡ suc (c.each.left - 1) = search rules in
    let added : c.in_ok-parts.parts ≡ c.each.parts + c.in_ok-more.more = search rules in
    let done : c.each.done + 1 ≡ suc c.each.done = omega arith in
    subst (λ n. Following c.args.state.now c.args.count c.follow.new.state c.follow.new.bundle n (c.each.done + 1) (c.each.left - 1)) (sym added)
    (subst (λ n. Following c.args.state.now c.args.count c.follow.new.state c.follow.new.bundle (c.each.parts + c.in_ok-more.more) n (c.each.left - 1)) (sym done)
    (follows_on c.args.state.now c.each.state c.follow.new.state c.args.count c.each.bundle c.follow.new.bundle c.in_ok-entry.entry c.each.parts c.in_ok-more.more c.each.done (c.each.left - 1)
    (subst (λ n. Following c.args.state.now c.args.count c.each.state c.each.bundle c.each.parts c.each.done n) more c.each.invariant) c.in_ok-entry.ensures c.in_ok-more.ensures.parts c.in_ok-more.ensures.step
    c.follow.ensures.valid c.in_ok-more.ensures.whole))
