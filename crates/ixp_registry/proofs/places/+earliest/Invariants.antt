use Rattle.std.proofs.Common.{length}
use Rattle.ixp_registry.proofs.places.+earliest.Given as goal

abbrev pub decreases-earliest : goal.decreases-earliest
decreases-earliest l = length l.places.now
