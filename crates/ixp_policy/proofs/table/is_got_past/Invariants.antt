use Rattle.std.proofs.Common.{◌≡◌, length}
use Rattle.ixp_policy.specs.Import.{is_got_past}
use Rattle.ixp_policy.proofs.table.is_got_past.Given as goal

abbrev pub invariant-lines : goal.invariant-lines
invariant-lines l = is_got_past l.reason l.left ≡ is_got_past l.reason l.fn.lines

abbrev pub decreases-lines : goal.decreases-lines
decreases-lines l = length l.left
