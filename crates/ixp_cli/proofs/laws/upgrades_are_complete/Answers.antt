use Rattle.ixp_cli.proofs.Told.{whole_raise}
use Rattle.ixp_cli.proofs.laws.upgrades_are_complete.Goals as goal

pub returns : goal.returns
returns c = whole_raise
