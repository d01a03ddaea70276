use Rattle.std.proofs.Common.{◌≡◌, map, length, bytes_eq}
use Rattle.std.specs.Char.{to_ascii_uppercase}
use Rattle.ixp_rpsl_sources.proofs.sources.is_upper_of.Given as goal

abbrev pub invariant-bytes : goal.invariant-bytes
invariant-bytes l = bytes_eq l.rest (map to_ascii_uppercase l.left) ≡ bytes_eq l.fn.upper (map to_ascii_uppercase l.fn.t)

abbrev pub decreases-bytes : goal.decreases-bytes
decreases-bytes l = length l.left
