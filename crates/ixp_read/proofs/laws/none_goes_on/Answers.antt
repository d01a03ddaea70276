use Rattle.ixp_read.proofs.ConfigurationStops.{config_stops}
use Rattle.ixp_read.proofs.laws.none_goes_on.Goals as goal

pub returns : goal.returns
returns c = config_stops
