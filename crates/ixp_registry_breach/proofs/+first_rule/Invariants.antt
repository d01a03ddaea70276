use Rattle.std.proofs.Common.{length}
use Rattle.ixp_registry_breach.proofs.+first_rule.Given as goal

abbrev pub decreases-first_rule : goal.decreases-first_rule
decreases-first_rule l = length l.places.now
