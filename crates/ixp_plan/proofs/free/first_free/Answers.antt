use Rattle.std.proofs.Common.{rules}
use Rattle.ixp_plan.proofs.Search.{next_left}
use Rattle.ixp_plan.proofs.free.first_free.Goals as goal

pub each-preserved : goal.each-preserved
each-preserved c =
    next_left c.args.registry.now c.args.vlan c.args.family c.in_ok-prefix.prefix c.in-Some.addr c.next_in-left.result (search rules) (search rules) (search rules) c.next_in-left.ensures.some c.next_in-left.ensures.none
