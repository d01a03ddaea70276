use Rattle.std.proofs.Common.{◌+◌, arith}
use Rattle.ixp_pfxset.proofs.Fronts.{adds_more, adds_all}
use Rattle.ixp_pfxset.proofs.plain.push_fronts.Goals as goal

pub loop-len-preserved : goal.loop-len-preserved
loop-len-preserved c =
    adds_more c.args.list.now c.args.blocks.now.items c.args.r.now c.args.high c.loop-len.len c.loop-len.blocks.items c.push_front.new.blocks.items c.loop-len.invariant c.in_ok-push_front.ensures

pub returns-in_ok-push_front : goal.returns-in_ok-push_front
returns-in_ok-push_front c =
    let below = adds_more c.args.list.now c.args.blocks.now.items c.args.r.now c.args.high c.loop-len.len c.loop-len.blocks.items c.push_front.new.blocks.items c.loop-len.invariant c.in_ok-push_front.ensures in
    adds_all c.args.list.now c.args.blocks.now.items c.args.r.now c.args.high (c.loop-len.len + 1) c.push_front.new.blocks.items (omega arith) below
