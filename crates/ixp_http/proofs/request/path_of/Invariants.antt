use Rattle.std.proofs.Common.{take, drop, ◌++◌, ◌≡◌}
use Rattle.ixp_http.specs.Fields.{before}
use Rattle.ixp_http.proofs.request.path_of.Given as goal

abbrev pub invariant-loop-at : goal.invariant-loop-at
invariant-loop-at l = before 63 l.target ≡ take l.at l.target ++ before 63 (drop l.at l.target)
