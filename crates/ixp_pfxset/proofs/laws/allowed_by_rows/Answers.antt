use Rattle.ixp_pfxset.proofs.Least.{any_row_covers, any_row_is, none_longer}
use Rattle.ixp_pfxset.proofs.laws.allowed_by_rows.Goals as goal

pub returns-clause-exact : goal.returns-clause-exact
returns-clause-exact c = any_row_is

pub returns-clause-more : goal.returns-clause-more
returns-clause-more c = any_row_covers

pub returns-clause-long : goal.returns-clause-long
returns-clause-long c = none_longer
