use Rattle.ixp_rpsl_sources.proofs.OneReading.{one_reading}
use Rattle.ixp_rpsl_sources.proofs.laws.one_reading.Goals as goal

pub returns : goal.returns
returns c = one_reading
