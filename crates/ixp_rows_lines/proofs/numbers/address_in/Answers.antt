use Rattle.std.proofs.Common.{◌∙◌, sym}
use Rattle.ixp_rows_lines.proofs.Values.{address_same, address_other}
use Rattle.ixp_rows_lines.proofs.numbers.address_in.Goals as goal

pub returns-then-branch : goal.returns-then-branch
returns-then-branch c = address_same c.args.field.now c.in-Ok.addr c.in-Ok.ensures (sym c.in_ok-is_address_text-in-Ok.ensures ∙ c.if-branch.true)

pub returns-else-branch : goal.returns-else-branch
returns-else-branch c = address_other c.args.field.now c.in-Ok.addr c.in-Ok.ensures (sym c.in_ok-is_address_text-in-Ok.ensures ∙ c.if-branch.false)
