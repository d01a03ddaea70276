use Rattle.ixp_roa.proofs.Climbing.{IsUpTo}
use Rattle.ixp_roa.proofs.index.climb.Given as goal

-- what was met on the way
abbrev pub invariant-up : goal.invariant-up
invariant-up l = IsUpTo l.rows l.net l.origin.0 l.at l.covered

abbrev pub decreases-up : goal.decreases-up
decreases-up l = l.at
