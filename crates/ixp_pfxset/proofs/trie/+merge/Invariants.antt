use Rattle.std.proofs.Common.{◌-◌}
use Rattle.ixp_pfxset.proofs.trie.+merge.Given as goal

abbrev pub decreases-merge : goal.decreases-merge
decreases-merge l = l.l - l.n.now.len
