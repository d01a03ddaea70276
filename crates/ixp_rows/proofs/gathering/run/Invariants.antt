use Rattle.std.proofs.Common.{◌≡◌, ◌+◌, length, take, drop}
use Rattle.std.specs.List.{AllByRecursion}
use Rattle.ixp_rows.proofs.gathering.run.Given as goal

abbrev pub invariant-rows : goal.invariant-rows
invariant-rows g l = record {
  rest : l.left ≡ drop l.count l.others;
  room : l.count + length l.left ≡ length l.others;
  same : AllByRecursion (λ s. g.R.Listed.group s ≡ g.R.Listed.group l.first) (take l.count l.others);
}

abbrev pub decreases-rows : goal.decreases-rows
decreases-rows g l = length l.left
