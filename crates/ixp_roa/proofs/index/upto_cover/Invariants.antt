use Rattle.std.proofs.Common.{◌≤◌}
use Rattle.ixp_roa.specs.Climbs.{NoneFrom}
use Rattle.ixp_roa.proofs.index.upto_cover.Given as goal

-- no row that covers the net stands from here on
abbrev pub invariant-up : goal.invariant-up
invariant-up l = (l.at ≤ l.from) × NoneFrom l.rows l.net l.at l.from

abbrev pub decreases-up : goal.decreases-up
decreases-up l = l.at
