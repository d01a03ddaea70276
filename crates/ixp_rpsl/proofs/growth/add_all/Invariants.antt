use Rattle.std.proofs.Common.{◌≡◌, length}
use Rattle.ixp_rpsl.specs.Breadth.{adds, named_by}
use Rattle.ixp_rpsl.specs.Lookups.{Agrees}
use Rattle.ixp_rpsl.proofs.growth.add_all.Given as goal

abbrev pub invariant-names : goal.invariant-names
invariant-names l = record {
  agrees : Agrees l.reached;
  rest : adds l.reached.list (named_by l.fn.by l.left) ≡ adds l.fn.reached.list (named_by l.fn.by l.fn.names);
}

abbrev pub decreases-names : goal.decreases-names
decreases-names l = length l.left
