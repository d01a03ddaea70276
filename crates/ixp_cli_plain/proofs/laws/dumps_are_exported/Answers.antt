use Rattle.ixp_cli_plain.proofs.Complete.{exported_run}
use Rattle.ixp_cli_plain.proofs.laws.dumps_are_exported.Goals as goal

pub returns : goal.returns
returns c = exported_run
