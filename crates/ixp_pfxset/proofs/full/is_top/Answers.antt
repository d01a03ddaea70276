use Rattle.ixp_pfxset.proofs.Halves.{top_at_parent}
use Rattle.ixp_pfxset.proofs.full.is_top.Goals as goal

pub returns-in-Some : goal.returns-in-Some
returns-in-Some c =
    let fills = c.is_full.ensures.0 c.if-not-is_full.false in
    top_at_parent c.args.list.now c.args.l c.args.n.now c.in-Some.p c.is_full-in-Some.result c.in-Some.ensures.some fills c.is_full-in-Some.ensures
