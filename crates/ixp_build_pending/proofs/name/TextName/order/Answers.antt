use Rattle.std.proofs.Common.{rules}
use Rattle.ixp_build_pending.proofs.NameOrder.{by_bytes, by_parts}
use Rattle.ixp_build_pending.proofs.name.TextName.order.Goals as goal

pub returns-in-Equal-cmp : goal.returns-in-Equal-cmp
returns-in-Equal-cmp c = by_parts c.args.self.now c.args.other.now _ (search rules) (search rules) (search rules)

pub returns-in_default-cmp : goal.returns-in_default-cmp
returns-in_default-cmp c = by_bytes c.args.self.now c.args.other.now _ (search rules) (search rules) (search rules)
