use Rattle.std.proofs.Common.{◌≡◌, ◌++◌, length}
use Rattle.ixp_rpsl.specs.Origins.{origins_in}
use Rattle.ixp_rpsl.proofs.origins.numbers_of.Given as goal

abbrev pub invariant-rows : goal.invariant-rows
invariant-rows l = l.numbers.items ++ origins_in l.left l.fn.c ≡ origins_in l.fn.rows l.fn.c

abbrev pub decreases-rows : goal.decreases-rows
decreases-rows l = length l.left
