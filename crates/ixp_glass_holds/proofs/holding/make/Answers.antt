use Rattle.ixp_glass_holds.proofs.Histories.{may_hold}
use Rattle.ixp_glass_holds.proofs.holding.make.Goals as goal

pub put-requires : goal.put-requires
put-requires g c = may_hold c.args.pen.now c.view-view.result.now c.args.family c.args.hold.now c.view-view.ensures c.requires.free c.requires.formed
