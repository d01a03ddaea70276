use Rattle.std.proofs.Common.{◌≡◌, ◌∷◌, take}
use Rattle.ixp_glass.proofs.kept.with_newest.Given as goal

abbrev pub invariant-each : goal.invariant-each
invariant-each l = l.rows ≡ l.fn.newest ∷ take l.row-index l.row-items
