use Rattle.std.proofs.Common.{true, ◌≡◌}
use Rattle.ixp_irr.proofs.Texts.{no_prefix}
use Rattle.ixp_irr.proofs.items.PrefixesReads.item_of.Goals as goal

pub returns-else-is_of : goal.returns-else-is_of
returns-else-is_of c = (c.in-Ok.prefix, c.in-Ok.ensures, λ same. let yes_ : c.is_of.result ≡ true = c.is_of.ensures.1 same in let no_ = c.if-is_of.false in cc)

pub returns-in-Err : goal.returns-in-Err
returns-in-Err c = no_prefix c.args.line.now c.in-Err.field-0 c.in-Err.ensures
