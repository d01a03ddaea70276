use Rattle.std.proofs.Common.{◌≡◌, length}
use Rattle.std.specs.List.{list_all}
use Rattle.ixp_rpsl.specs.Expansion.{sets_in, has_name}
use Rattle.ixp_rpsl.proofs.check.are_reached.Given as goal

abbrev pub invariant-items : goal.invariant-items
invariant-items l = list_all (has_name l.fn.c) (sets_in l.left) ≡ list_all (has_name l.fn.c) (sets_in l.fn.items)

abbrev pub decreases-items : goal.decreases-items
decreases-items l = length l.left
