use Rattle.ixp_rpsl_text.proofs.Lists.{origins_are_listed, prefixes_are_listed}
use Rattle.ixp_rpsl_text.proofs.laws.listings_are_lists.Goals as goal

pub returns-clause-origins : goal.returns-clause-origins
returns-clause-origins c = origins_are_listed

pub returns-clause-prefixes : goal.returns-clause-prefixes
returns-clause-prefixes c = prefixes_are_listed
