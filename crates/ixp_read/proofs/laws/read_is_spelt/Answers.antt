use Rattle.ixp_read.proofs.ConfigurationLaws.{config_whole, config_spelt}
use Rattle.ixp_read.proofs.laws.read_is_spelt.Goals as goal

pub returns-clause-whole : goal.returns-clause-whole
returns-clause-whole c = config_whole

pub returns-clause-spelt : goal.returns-clause-spelt
returns-clause-spelt c = config_spelt
