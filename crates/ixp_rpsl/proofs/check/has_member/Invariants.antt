use Rattle.std.proofs.Common.{◌≡◌, length}
use Rattle.ixp_rpsl.specs.Expansion.{member_sets, is_among}
use Rattle.ixp_rpsl.proofs.check.has_member.Given as goal

abbrev pub invariant-rows : goal.invariant-rows
invariant-rows l = is_among (member_sets l.left l.fn.set) l.fn.name ≡ is_among (member_sets l.fn.rows l.fn.set) l.fn.name

abbrev pub decreases-rows : goal.decreases-rows
decreases-rows l = length l.left
