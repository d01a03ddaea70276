use Rattle.std.proofs.Common.{◌≡◌, ◌++◌, ◌∷◌, drop, map}
use Rattle.ixp_rows.proofs.gathering.items_of.Given as goal

abbrev pub invariant-loop-row : goal.invariant-loop-row
invariant-loop-row g l = l.items.items ++ map g.R.Listed.item (drop l.row-index l.others) ≡ map g.R.Listed.item (l.first ∷ l.others)
