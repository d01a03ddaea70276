use Rattle.ixp_plan.proofs.Search.{IsLeft, work}
use Rattle.ixp_plan.proofs.free.first_free.Given as goal

abbrev pub invariant-each : goal.invariant-each
invariant-each l = IsLeft l.registry l.vlan l.family l.prefix l.left

abbrev pub decreases-each : goal.decreases-each
decreases-each l = work l.left
