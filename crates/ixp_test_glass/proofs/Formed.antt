-- One well-formed route more.
use Rattle.std.proofs.Common.{◌≡◌, List, [], ◌∷◌, ◌++◌, Result, Ok, Err, OnOk, sym, subst}
use Rattle.std.specs.declared.alloc.AllocError.{AllocError}
use Rattle.std.specs.List.{All}
use Rattle.std.proofs.lemmas.List.Elements.{All-push}
use Rattle.ixp_lang.specs.declared.route.Route.{Route}
use Rattle.ixp_glass_holds.specs.Holds.{IsWellFormed}

pub one_more : (old new : List Route) (route : Route) (r : Result (Unit {0}) AllocError) → All IsWellFormed old → IsWellFormed route → OnOk r (new ≡ old ++ route ∷ []) → OnOk r (All IsWellFormed new)
one_more old new route (Ok done) all formed is = subst (λ (rs : List Route). All IsWellFormed rs) (sym is) (All-push IsWellFormed old route all formed)
one_more old new route (Err fault) all formed is = tt
