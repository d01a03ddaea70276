use Rattle.std.proofs.Common.{◌≡◌, map, length, bytes_eq}
use Rattle.std.specs.Char.{to_ascii_lowercase}
use Rattle.ixp_rpsl.proofs.attributes.is_word.Given as goal

abbrev pub invariant-bytes : goal.invariant-bytes
invariant-bytes l = bytes_eq (map to_ascii_lowercase l.left) l.rest ≡ bytes_eq (map to_ascii_lowercase l.fn.name) l.fn.word

abbrev pub decreases-bytes : goal.decreases-bytes
decreases-bytes l = length l.left
