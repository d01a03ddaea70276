use Rattle.ixp_cli_plain.proofs.Complete.{restored_run}
use Rattle.ixp_cli_plain.proofs.laws.dumps_are_restored.Goals as goal

pub returns : goal.returns
returns c = restored_run
