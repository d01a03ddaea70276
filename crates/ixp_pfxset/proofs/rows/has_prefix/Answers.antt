use Rattle.ixp_pfxset.proofs.Found.{found_prefix}
use Rattle.ixp_pfxset.proofs.rows.has_prefix.Goals as goal

pub returns : goal.returns
returns c = found_prefix c.equal_prefixes.ensures c.args.list.now c.args.q.now c.has.result c.has.ensures
