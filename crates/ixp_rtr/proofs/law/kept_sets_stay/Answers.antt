use Rattle.ixp_rtr.proofs.Serials.{stays}
use Rattle.ixp_rtr.proofs.law.kept_sets_stay.Goals as goal

pub returns : goal.returns
returns c = stays
