use Rattle.std.proofs.Common.{sym, rules}
use Rattle.ixp_plan.proofs.Prefixes.{none_behind}
use Rattle.ixp_plan.proofs.free.next_in.Goals as goal

pub returns-else-contains-clause-none : goal.returns-else-contains-clause-none
returns-else-contains-clause-none c = λ b bt.
    none_behind c.args.prefix.now c.args.addr.now c.in_ok-next.next b c.requires c.in_ok-next.ensures.some.0 (search rules) (sym c.if-contains.ensures) bt
