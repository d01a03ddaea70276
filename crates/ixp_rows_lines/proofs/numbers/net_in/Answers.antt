use Rattle.std.proofs.Common.{◌∙◌, sym}
use Rattle.ixp_rows_lines.proofs.Values.{net_same, net_other}
use Rattle.ixp_rows_lines.proofs.numbers.net_in.Goals as goal

pub returns-then-branch : goal.returns-then-branch
returns-then-branch c = net_same c.args.field.now c.in-Ok.net c.in-Ok.ensures (sym c.in_ok-is_net_text-in-Ok.ensures ∙ c.if-branch.true)

pub returns-else-branch : goal.returns-else-branch
returns-else-branch c = net_other c.args.field.now c.in-Ok.net c.in-Ok.ensures (sym c.in_ok-is_net_text-in-Ok.ensures ∙ c.if-branch.false)
