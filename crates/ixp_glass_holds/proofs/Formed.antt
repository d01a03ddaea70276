-- A route that is read from a text is well formed.
use Rattle.std.proofs.Common.{ℕ, List, Ok}
use Rattle.ixp_lang.specs.declared.route.Route.{Route}
use Rattle.ixp_lang.specs.RouteAnswers.{RouteAnswer}
use Rattle.ixp_glass_holds.specs.Holds.{IsWellFormed}

pub read_formed : (t : List ℕ) (r : Route) → RouteAnswer t (Ok r) → IsWellFormed r
read_formed t r is = record { one_family = is.2; path = is.1.path; pairs = is.1.pairs; triples = is.1.triples }
