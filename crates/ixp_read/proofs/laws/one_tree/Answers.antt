use Rattle.ixp_read.proofs.ConfigurationLaws.{one_config}
use Rattle.ixp_read.proofs.laws.one_tree.Goals as goal

pub returns : goal.returns
returns c = one_config
