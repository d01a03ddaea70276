use Rattle.std.specs.List.{All}
use Rattle.ixp_glass_holds.specs.Holds.{IsWellFormed}
use Rattle.ixp_test_glass.proofs.routes.routes_of.Given as goal

abbrev pub invariant-each : goal.invariant-each
invariant-each l = All IsWellFormed l.routes
