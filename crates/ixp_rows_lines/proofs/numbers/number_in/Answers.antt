use Rattle.ixp_rows_lines.proofs.Values.{number_said, number_unsaid}
use Rattle.ixp_rows_lines.proofs.numbers.number_in.Goals as goal

pub returns-in-Ok : goal.returns-in-Ok
returns-in-Ok c = number_said c.args.field.now c.in-Ok.field-0 c.in-Ok.ensures

pub returns-in-Err : goal.returns-in-Err
returns-in-Err c = number_unsaid c.args.field.now c.in-Err.field-0 c.in-Err.ensures
