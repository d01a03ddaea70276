use Rattle.std.proofs.Common.{◌≡◌, ◌&&◌, ◌||◌, length}
use Rattle.std.specs.List.{list_any}
use Rattle.ixp_num.specs.declared.addr.Addr.{Addr}
use Rattle.ixp_num.specs.Prefixes.{contains}
use Rattle.ixp_plan.specs.Holders.{uses}
use Rattle.ixp_plan.specs.Uses.{is_in}
use Rattle.ixp_plan.proofs.uses.put_routers.Given as goal

abbrev pub invariant-each : goal.invariant-each
invariant-each l =
    (a : Addr) → (contains l.prefix a && list_any (uses a) l.left || is_in a l.used)
    ≡ (contains l.prefix a && list_any (uses a) l.fn.routers || is_in a l.fn.used)

abbrev pub decreases-each : goal.decreases-each
decreases-each l = length l.left
