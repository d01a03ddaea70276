use Rattle.std.proofs.Common.{◌≡◌, true}
use Rattle.ixp_rpsl.proofs.Saying.{no_prefix, other_prefix}
use Rattle.ixp_rpsl.proofs.values.prefix_of.Goals as goal

pub returns-else-is_of : goal.returns-else-is_of
returns-else-is_of c =
    other_prefix c.args.family c.args.t.now c.in-Ok.prefix c.in-Ok.ensures (λ same. let is : c.is_of.result ≡ true = c.is_of.ensures.equal.1 same in let isnt = c.if-is_of.false in let h : ⊥ = cc in h)

pub returns-in-Err : goal.returns-in-Err
returns-in-Err c = no_prefix c.args.family c.args.t.now c.in-Err.field-0 c.in-Err.ensures
