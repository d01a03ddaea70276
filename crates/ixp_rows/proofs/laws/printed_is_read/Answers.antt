use Rattle.ixp_rows.proofs.PrintedDumps.{printed_answer}
use Rattle.ixp_rows.proofs.ReadAgain.{printed_read}
use Rattle.ixp_rows.proofs.laws.printed_is_read.Goals as goal

pub returns-clause-answer : goal.returns-clause-answer
returns-clause-answer c = printed_answer

pub returns-clause-reads : goal.returns-clause-reads
returns-clause-reads c = printed_read
