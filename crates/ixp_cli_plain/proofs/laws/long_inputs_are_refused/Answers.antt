use Rattle.ixp_cli_plain.proofs.LongInputs.{long_run}
use Rattle.ixp_cli_plain.proofs.laws.long_inputs_are_refused.Goals as goal

pub returns : goal.returns
returns c = long_run
