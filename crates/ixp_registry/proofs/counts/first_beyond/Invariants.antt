use Rattle.std.proofs.Common.{◌≡◌, ◌+◌, ℕ, List, [], map, length}
use Rattle.std.specs.Option.{unwrap_or}
use Rattle.std.specs.BTreeMap as tree
use Rattle.ixp_registry.specs.Places.{first_beyond_from, times}
use Rattle.ixp_registry.proofs.counts.first_beyond.Given as goal

abbrev pub invariant-rows : goal.invariant-rows
invariant-rows g l = record {
  room : l.at + length l.left ≡ l.fn.start + length l.fn.rows;
  seen : (earlier : List (List ℕ))
      × ((q : _) → unwrap_or (tree.get g.C.Key.Ord.cmp l.counts q) 0 ≡ times (g.C.Key.Key.numbers q) earlier)
      × (first_beyond_from earlier l.fn.most l.at (map g.C.Counted.numbers_of l.left) ≡ first_beyond_from [] l.fn.most l.fn.start (map g.C.Counted.numbers_of l.fn.rows));
}

abbrev pub decreases-rows : goal.decreases-rows
decreases-rows g l = length l.left
