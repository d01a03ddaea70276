use Rattle.std.proofs.Common.{◌-◌}
use Rattle.ixp_pfxset.proofs.full.+is_full.Given as goal

abbrev pub decreases-is_full : goal.decreases-is_full
decreases-is_full l = l.l - l.n.now.len
