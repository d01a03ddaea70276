use Rattle.std.proofs.Common.{◌≡◌, ◌++◌, take, drop}
use Rattle.ixp_api_paths.specs.Paths as spec
use Rattle.ixp_api_paths.proofs.reading.cut.Given as goal

abbrev pub invariant-loop-i : goal.invariant-loop-i
invariant-loop-i l = record {
  front : spec.front l.text ≡ take l.i l.text ++ spec.front (drop l.i l.text);
  behind : spec.behind l.text ≡ spec.behind (drop l.i l.text);
}
