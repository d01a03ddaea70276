-- Routes that a request has held are well formed.
use Rattle.std.proofs.Common.{List}
use Rattle.std.specs.List.{All}
use Rattle.ixp_lang.specs.declared.route.Route.{Route}
use Rattle.ixp_api_bodies.specs.Routes as bodies
use Rattle.ixp_glass_holds.specs.Holds as holds

one_formed : (r : Route) → bodies.IsWellFormed r → holds.IsWellFormed r
one_formed r is = record { one_family = is.1; path = is.0.path; pairs = is.0.pairs; triples = is.0.triples }

pub formed : (routes : List Route) → All bodies.IsWellFormed routes → All holds.IsWellFormed routes
formed routes all = λ k d small. one_formed _ (all k d small)
