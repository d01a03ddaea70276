use Rattle.std.proofs.Common.{◌≡◌, ◌≤◌, ◌-◌, ◌^◌, ◌∷◌, [], true, length, take}
use Rattle.ixp_rpsl.specs.Expansion.{starts}
use Rattle.ixp_rpsl.specs.Breadth.{adds, mentions}
use Rattle.ixp_rpsl.specs.Lookups.{Agrees}
use Rattle.ixp_rpsl.proofs.growth.grown.Given as goal

abbrev pub invariant-sets : goal.invariant-sets
invariant-sets l = record {
  agrees : Agrees l.reached;
  room : l.at ≤ length l.reached.list;
  begun : starts l.fn.rows l.fn.root l.reached.list ≡ true;
  met : l.reached.list ≡ adds [] (record { set = l.fn.root; by = 0 } ∷ mentions l.fn.rows 1 (take l.at l.reached.list));
}

abbrev pub decreases-sets : goal.decreases-sets
decreases-sets l = 2 ^ 64 - l.at
