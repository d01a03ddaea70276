use Rattle.std.proofs.Common.{◌≡◌, ◌++◌, drop, flat_map}
use Rattle.ixp_plan.specs.Uses.{use_line}
use Rattle.ixp_plan.proofs.report.put_uses.Given as goal

abbrev pub invariant-loop-taken : goal.invariant-loop-taken
invariant-loop-taken l =
    l.out.items ++ flat_map (λ u. use_line l.registry u.addr) (drop l.taken-index l.used)
    ≡ l.fn.out.items ++ flat_map (λ u. use_line l.registry u.addr) l.used
