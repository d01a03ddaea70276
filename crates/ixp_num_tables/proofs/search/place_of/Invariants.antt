use Rattle.std.proofs.Common.{◌≡◌, ◌+◌, ◌≤◌, length}
use Rattle.ixp_num_tables.specs.Tables.{Ascends, place}
use Rattle.ixp_num_tables.proofs.Places.{onward}
use Rattle.ixp_num_tables.proofs.search.place_of.Given as goal

abbrev pub invariant-halves : goal.invariant-halves
invariant-halves g l = record {
  room : l.before + length l.left ≤ l.count;
  ascends : Ascends g.R.Row.key_of l.left;
  goes_on : place g.R.Row.key_of (g.A.Aim.aim l.aim) l.rows ≡ onward l.before (place g.R.Row.key_of (g.A.Aim.aim l.aim) l.left);
}

abbrev pub decreases-halves : goal.decreases-halves
decreases-halves g l = length l.left
