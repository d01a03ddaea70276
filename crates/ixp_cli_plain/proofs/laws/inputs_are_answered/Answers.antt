use Rattle.ixp_cli_plain.proofs.Complete.{answered_run}
use Rattle.ixp_cli_plain.proofs.OneAnswer.{one_written, not_refused, not_in_vain, not_bad}
use Rattle.ixp_cli_plain.proofs.laws.inputs_are_answered.Goals as goal

pub returns-clause-output : goal.returns-clause-output
returns-clause-output c = one_written

pub returns-clause-refusal : goal.returns-clause-refusal
returns-clause-refusal c = not_refused

pub returns-clause-away : goal.returns-clause-away
returns-clause-away c = not_in_vain

pub returns-clause-objects : goal.returns-clause-objects
returns-clause-objects c = not_bad

pub returns-clause-run : goal.returns-clause-run
returns-clause-run c = answered_run
