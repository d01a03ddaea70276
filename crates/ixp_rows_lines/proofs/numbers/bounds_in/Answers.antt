use Rattle.std.proofs.Common.{◌∙◌, sym, rules}
use Rattle.ixp_rows_lines.proofs.Values.{bounds_same, bounds_other}
use Rattle.ixp_rows_lines.proofs.numbers.bounds_in.Goals as goal

pub returns-then-branch : goal.returns-then-branch
returns-then-branch c = bounds_same c.args.field.now c.in-Ok.pattern (search rules) (search rules) c.in-Ok.ensures (sym c.in_ok-is_bounds_text-in-Ok.ensures ∙ c.if-branch.true)

pub returns-else-branch : goal.returns-else-branch
returns-else-branch c = bounds_other c.args.field.now c.in-Ok.pattern (search rules) (search rules) c.in-Ok.ensures (sym c.in_ok-is_bounds_text-in-Ok.ensures ∙ c.if-branch.false)
