use Rattle.std.proofs.Common.{rules, ◌≡◌}
use Rattle.ixp_build_pending.specs.Pendings.{later_count}
use Rattle.ixp_build_pending.proofs.Listing.{later_by, not_later, still_later}
use Rattle.ixp_build_pending.proofs.pending.Pending.settle.Goals as goal

pub returns-then-self-upto : goal.returns-then-self-upto
returns-then-self-upto c = later_by c.args.upto c.args.self.now _ c.in_order.ensures.ascends c.drop_upto.ensures (not_later c.args.upto c.args.self.now.roas (search rules))

pub returns-else-self-upto : goal.returns-else-self-upto
returns-else-self-upto c = later_by c.args.upto c.args.self.now _ c.in_order.ensures.ascends c.drop_upto.ensures (still_later c.args.upto c.args.self.now.roas (search rules))
