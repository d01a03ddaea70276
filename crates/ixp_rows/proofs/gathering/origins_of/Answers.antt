use Rattle.ixp_rows.proofs.Listed.{origins_listed}
use Rattle.ixp_rows.proofs.gathering.origins_of.Goals as goal

pub lists_of-requires-clause-listed : goal.lists_of-requires-clause-listed
lists_of-requires-clause-listed c = origins_listed
