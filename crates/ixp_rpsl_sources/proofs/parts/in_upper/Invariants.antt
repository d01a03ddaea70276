use Rattle.std.proofs.Common.{◌≡◌, ◌++◌, map, length}
use Rattle.std.specs.Char.{to_ascii_uppercase}
use Rattle.ixp_rpsl_sources.proofs.parts.in_upper.Given as goal

abbrev pub invariant-bytes : goal.invariant-bytes
invariant-bytes l = l.word.items ++ map to_ascii_uppercase l.left ≡ map to_ascii_uppercase l.t

abbrev pub decreases-bytes : goal.decreases-bytes
decreases-bytes l = length l.left
