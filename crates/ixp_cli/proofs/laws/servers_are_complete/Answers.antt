use Rattle.ixp_cli.proofs.Complete.{all_asked}
use Rattle.ixp_cli.proofs.laws.servers_are_complete.Goals as goal

pub returns : goal.returns
returns c = all_asked
