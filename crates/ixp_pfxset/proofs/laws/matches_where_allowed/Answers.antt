use Rattle.std.proofs.Common.{◌∙◌}
use Rattle.ixp_pfxset.proofs.Least.{none_longer, none_of_family}
use Rattle.ixp_pfxset.proofs.Matching.{where_allowed}
use Rattle.ixp_pfxset.proofs.laws.matches_where_allowed.Goals as goal

pub returns-clause-allowed : goal.returns-clause-allowed
returns-clause-allowed c = λ rows mode high q. where_allowed rows high mode q

pub returns-clause-long : goal.returns-clause-long
returns-clause-long c = λ rows mode high q long. where_allowed rows high mode q ∙ none_longer rows mode high q long

pub returns-clause-family : goal.returns-clause-family
returns-clause-family c = λ rows mode high q other. where_allowed rows high mode q ∙ none_of_family rows mode high q other
