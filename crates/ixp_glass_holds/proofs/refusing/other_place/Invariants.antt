use Rattle.std.proofs.Common.{◌≡◌, ◌+◌, drop}
use Rattle.ixp_glass_holds.specs.Calls.{other_from}
use Rattle.ixp_glass_holds.proofs.refusing.other_place.Given as goal

abbrev pub invariant-each : goal.invariant-each
invariant-each l =
    (l.place ≡ l.route-index + 1) × (other_from l.place l.family (drop l.route-index l.routes) ≡ other_from 1 l.family l.routes)
