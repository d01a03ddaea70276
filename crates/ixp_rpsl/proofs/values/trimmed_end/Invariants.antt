use Rattle.std.proofs.Common.{◌≡◌, length, reverse}
use Rattle.ixp_rpsl.specs.Values.{trimmed_start}
use Rattle.ixp_rpsl.proofs.values.trimmed_end.Given as goal

abbrev pub invariant-bytes : goal.invariant-bytes
invariant-bytes l = trimmed_start (reverse l.left) ≡ trimmed_start (reverse l.fn.t)

abbrev pub decreases-bytes : goal.decreases-bytes
decreases-bytes l = length l.left
