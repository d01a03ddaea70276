use Rattle.ixp_irr.proofs.Texts.{no_pattern}
use Rattle.ixp_irr.proofs.items.PatternsReads.item_of.Goals as goal

pub returns-in-Err : goal.returns-in-Err
returns-in-Err c = no_pattern c.args.line.now c.in-Err.field-0 c.in-Err.ensures
