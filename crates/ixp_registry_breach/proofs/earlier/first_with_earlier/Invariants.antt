use Rattle.std.proofs.Common.{◌≡◌, ◌+◌, [], length, take, drop}
use Rattle.ixp_registry.specs.Places.{first_with_earlier_from}
use Rattle.ixp_registry_breach.proofs.earlier.first_with_earlier.Given as goal

abbrev pub invariant-rows : goal.invariant-rows
invariant-rows g l = record {
  rest : l.left ≡ drop l.count l.rows;
  room : l.count + length l.left ≡ length l.rows;
  same : first_with_earlier_from (take l.count l.rows) (l.start + l.count) g.R.MeetsEarlier.meets l.left ≡ first_with_earlier_from [] l.start g.R.MeetsEarlier.meets l.rows;
}

abbrev pub decreases-rows : goal.decreases-rows
decreases-rows g l = length l.left
