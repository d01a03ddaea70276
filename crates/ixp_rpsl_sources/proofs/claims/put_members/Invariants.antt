use Rattle.std.proofs.Common.{◌≡◌, ◌++◌, length}
use Rattle.ixp_rpsl_sources.specs.Told.{claimed_at}
use Rattle.ixp_rpsl_sources.proofs.claims.put_members.Given as goal

abbrev pub invariant-places : goal.invariant-places
invariant-places l = l.members ++ claimed_at l.fn.index l.fn.words l.fn.claims l.left ≡ l.fn.members ++ claimed_at l.fn.index l.fn.words l.fn.claims l.fn.places

abbrev pub decreases-places : goal.decreases-places
decreases-places l = length l.left
