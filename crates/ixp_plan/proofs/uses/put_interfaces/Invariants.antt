use Rattle.std.proofs.Common.{◌≡◌, ◌&&◌, ◌||◌, length}
use Rattle.std.specs.List.{list_any}
use Rattle.ixp_num.specs.declared.addr.Addr.{Addr}
use Rattle.ixp_num.specs.Prefixes.{contains}
use Rattle.ixp_registry.specs.Lookups.{has_addr}
use Rattle.ixp_plan.specs.Uses.{is_in}
use Rattle.ixp_plan.proofs.uses.put_interfaces.Given as goal

abbrev pub invariant-each : goal.invariant-each
invariant-each l =
    (a : Addr) → (contains l.prefix a && list_any (has_addr a) l.left || is_in a l.used)
    ≡ (contains l.prefix a && list_any (has_addr a) l.fn.interfaces || is_in a l.fn.used)

abbrev pub decreases-each : goal.decreases-each
decreases-each l = length l.left
