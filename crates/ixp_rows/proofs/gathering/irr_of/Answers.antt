use Rattle.ixp_rows.proofs.Listed.{prefixes_listed}
use Rattle.ixp_rows.proofs.gathering.irr_of.Goals as goal

pub lists_of-requires-clause-listed : goal.lists_of-requires-clause-listed
lists_of-requires-clause-listed c = prefixes_listed
