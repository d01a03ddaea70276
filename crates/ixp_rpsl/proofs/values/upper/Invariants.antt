use Rattle.std.proofs.Common.{◌≡◌, ◌≤◌, ◌+◌, ◌++◌, map, length}
use Rattle.std.specs.Char.{to_ascii_uppercase}
use Rattle.ixp_rpsl.proofs.values.upper.Given as goal

abbrev pub invariant-bytes : goal.invariant-bytes
invariant-bytes l = record {
  so_far : l.upper.items ++ map to_ascii_uppercase l.left ≡ map to_ascii_uppercase l.t;
  room : length l.upper.items + length l.left ≤ 64;
}

abbrev pub decreases-bytes : goal.decreases-bytes
decreases-bytes l = length l.left
