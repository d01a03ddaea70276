use Rattle.ixp_cli_plain.proofs.OneOutput.{one_output}
use Rattle.ixp_cli_plain.proofs.laws.one_output.Goals as goal

pub returns : goal.returns
returns c = one_output
