use Rattle.std.proofs.Common.{arith}
use Rattle.std.proofs.lemmas.Grind.{common_steps}
use Rattle.ixp_http.proofs.Items.{after_first-nil, after_first-longer}
use Rattle.ixp_http.proofs.fields.first_item.Goals as goal

pub loop-at-init : goal.loop-at-init
loop-at-init c = after_first-nil c.args.bytes.now

pub loop-at-preserved : goal.loop-at-preserved
loop-at-preserved c = grind (arith, common_steps, after_first-longer)
