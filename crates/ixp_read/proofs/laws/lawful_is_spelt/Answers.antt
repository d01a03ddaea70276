use Rattle.ixp_read.proofs.ConfigurationStops.{lawful_config, config_lawful}
use Rattle.ixp_read.proofs.laws.lawful_is_spelt.Goals as goal

pub returns-clause-spelt : goal.returns-clause-spelt
returns-clause-spelt c = lawful_config

pub returns-clause-lawful : goal.returns-clause-lawful
returns-clause-lawful c = config_lawful
