use Rattle.std.proofs.Common.{◌≡◌, drop, None}
use Rattle.ixp_eval.specs.Indexed.{is_of, items_of}
use Rattle.ixp_eval.specs.Places.{is_at}
use Rattle.ixp_eval.proofs.Placing.{chosen}
use Rattle.ixp_eval.proofs.search.last_place.Given as goal

abbrev pub invariant-each : goal.invariant-each
invariant-each l =
    chosen (is_at l.before.count (is_of l.sort l.name) (items_of l.before.index.now)) l.found (drop l.place-index l.places)
    ≡ chosen (is_at l.before.count (is_of l.sort l.name) (items_of l.before.index.now)) None l.places
