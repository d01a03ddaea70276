use Rattle.std.proofs.Common.{◌-◌}
use Rattle.ixp_pfxset.proofs.tops.+tops_within.Given as goal

abbrev pub decreases-tops_within : goal.decreases-tops_within
decreases-tops_within l = l.l - l.n.now.len
