use Rattle.std.proofs.Common.{length, ◌≡◌, ◌+◌, Bool}
use Rattle.std.specs.Fn.{FnReturnsAt}
use Rattle.ixp_registry.specs.Places.{first}
use Rattle.ixp_registry.proofs.places.first.Given as goal

abbrev pub invariant-rows : goal.invariant-rows
invariant-rows g l = record {
  callable : goal.P-IsAlwaysCallable g l.breaks;
  room : l.at + length l.left ≡ l.fn.start + length l.fn.rows;
  same : (test : g.row.R.Denot → Bool) → ((r : g.row.R.Denot) (b : Bool) → FnReturnsAt g.P.Fn l.fn.breaks r b → b ≡ test r) → first l.at test l.left ≡ first l.fn.start test l.fn.rows;
}

abbrev pub decreases-rows : goal.decreases-rows
decreases-rows g l = length l.left
