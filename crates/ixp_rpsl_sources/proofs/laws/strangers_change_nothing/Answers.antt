use Rattle.ixp_rpsl_sources.proofs.OneReading.{strangers}
use Rattle.ixp_rpsl_sources.proofs.laws.strangers_change_nothing.Goals as goal

pub returns : goal.returns
returns c = strangers
