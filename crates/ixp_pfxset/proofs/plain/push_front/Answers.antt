use Rattle.std.proofs.Common.{sym, subst}
use Rattle.ixp_pfxset.proofs.Fronts.{Adds, adds_no_top, adds_top}
use Rattle.ixp_pfxset.proofs.plain.push_front.Goals as goal

pub returns-in_ok-push : goal.returns-in_ok-push
returns-in_ok-push c =
    subst (Adds c.args.list.now c.args.blocks.now.items c.args.r.now c.args.high c.args.len) (sym c.in_ok-push.ensures.items)
    (adds_top c.args.list.now c.args.blocks.now.items c.args.r.now c.args.high c.args.len c.in-Some.prefix c.in-Some.ensures.some c.requires.shorter (c.is_top.ensures.0 c.if-is_top.true))

pub returns-else-is_top : goal.returns-else-is_top
returns-else-is_top c =
    adds_no_top c.args.list.now c.args.blocks.now.items c.args.r.now c.args.high c.args.len c.in-Some.prefix c.in-Some.ensures.some
    (λ top. let yes_ = c.is_top.ensures.1 top in let no_ = c.if-is_top.false in cc)
