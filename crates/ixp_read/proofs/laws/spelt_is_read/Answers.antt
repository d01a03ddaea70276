use Rattle.ixp_read.proofs.ConfigurationLaws.{config_read}
use Rattle.ixp_read.proofs.laws.spelt_is_read.Goals as goal

pub returns : goal.returns
returns c = config_read
