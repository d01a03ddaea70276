use Rattle.ixp_cli_plain.proofs.Dumping.{dumped_run}
use Rattle.ixp_cli_plain.proofs.laws.stores_are_dumped.Goals as goal

pub returns : goal.returns
returns c = dumped_run
