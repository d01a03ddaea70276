use Rattle.std.proofs.Common.{refl}
use Rattle.ixp_build_pending.proofs.Listing.{listed_by}
use Rattle.ixp_build_pending.proofs.pending.Pending.listed.Goals as goal

pub returns : goal.returns
returns c = listed_by c.args.self.now _ c.in_order.ensures.ascends c.in_order.ensures.some c.in_ok-headers.ensures c.in_ok-sessions.ensures refl
