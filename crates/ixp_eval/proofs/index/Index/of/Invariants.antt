use Rattle.std.proofs.Common.{◌≡◌, ◌+◌, ◌++◌, ℕ, List, length, map}
use Rattle.ixp_lang.specs.Values.{values_of}
use Rattle.ixp_lang.specs.Views.{item_view}
use Rattle.ixp_eval.specs.Places.{places_of}
use Rattle.ixp_eval.proofs.index.Index.of.Given as goal

abbrev pub invariant-each : goal.invariant-each
invariant-each l =
    ((n : List ℕ) → values_of l.places n ++ places_of n l.place (map item_view l.left) ≡ places_of n 0 (map item_view l.fn.items))
    × (l.place + length l.left ≡ length l.fn.items)

abbrev pub decreases-each : goal.decreases-each
decreases-each l = length l.left
