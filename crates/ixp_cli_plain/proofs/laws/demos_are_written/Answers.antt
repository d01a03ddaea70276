use Rattle.ixp_cli_plain.proofs.Dumping.{demo_run}
use Rattle.ixp_cli_plain.proofs.laws.demos_are_written.Goals as goal

pub returns : goal.returns
returns c = demo_run
