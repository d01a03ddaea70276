use Rattle.std.proofs.Common.{◌≡◌, ◌++◌, length}
use Rattle.ixp_rpsl.specs.Origins.{prefixes_in}
use Rattle.ixp_rpsl.proofs.origins.prefixes_with.Given as goal

abbrev pub invariant-routes : goal.invariant-routes
invariant-routes l = l.prefixes.items ++ prefixes_in l.left l.fn.origins l.fn.family ≡ prefixes_in l.fn.routes l.fn.origins l.fn.family

abbrev pub decreases-routes : goal.decreases-routes
decreases-routes l = length l.left
