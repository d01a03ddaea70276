use Rattle.std.proofs.Common.{◌∙◌}
use Rattle.ixp_pfxset.proofs.Searching.{searched}
use Rattle.ixp_pfxset.proofs.ordered.has.Goals as goal

pub returns : goal.returns
returns g c = c.is_ok.ensures.value ∙ searched g.met.T.Ord.total g.met.T.Ord.matches_eq c.args.list.now c.args.item.now c.binary_search.result c.requires c.binary_search.ensures.bound c.binary_search.ensures.position
