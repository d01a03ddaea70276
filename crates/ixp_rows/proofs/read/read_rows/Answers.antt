use Rattle.ixp_rows.proofs.Answering.{rows_answered}
use Rattle.ixp_rows.proofs.read.read_rows.Goals as goal

pub returns-in-Ok-clause-answer : goal.returns-in-Ok-clause-answer
returns-in-Ok-clause-answer c = rows_answered c.args.version c.args.text.now c.in-Ok.rows c.in-Ok.ensures.reads c.in-Ok.ensures.of_version
