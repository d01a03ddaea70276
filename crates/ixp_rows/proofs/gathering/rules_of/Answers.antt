use Rattle.ixp_rows.proofs.Listed.{rules_listed}
use Rattle.ixp_rows.proofs.gathering.rules_of.Goals as goal

pub lists_of-requires-clause-listed : goal.lists_of-requires-clause-listed
lists_of-requires-clause-listed c = rules_listed
