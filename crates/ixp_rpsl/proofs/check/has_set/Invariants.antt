use Rattle.std.proofs.Common.{◌≡◌, length}
use Rattle.ixp_rpsl.specs.Expansion.{sets_in, is_among}
use Rattle.ixp_rpsl.proofs.check.has_set.Given as goal

abbrev pub invariant-items : goal.invariant-items
invariant-items l = is_among (sets_in l.left) l.fn.name ≡ is_among (sets_in l.fn.items) l.fn.name

abbrev pub decreases-items : goal.decreases-items
decreases-items l = length l.left
