use Rattle.std.proofs.Common.{◌≡◌, ◌++◌, length}
use Rattle.ixp_rpsl_sources.proofs.gleaned.put_lines.Given as goal

abbrev pub invariant-lines : goal.invariant-lines
invariant-lines l = l.passed ++ l.left ≡ l.fn.passed ++ l.fn.lines

abbrev pub decreases-lines : goal.decreases-lines
decreases-lines l = length l.left
