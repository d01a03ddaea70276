use Rattle.ixp_cli_plain.proofs.Raising.{raised_run}
use Rattle.ixp_cli_plain.proofs.laws.stores_are_upgraded.Goals as goal

pub returns : goal.returns
returns c = raised_run
