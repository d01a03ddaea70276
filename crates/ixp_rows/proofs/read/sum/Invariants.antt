use Rattle.std.proofs.Common.{◌≡◌, ◌+◌, drop}
use Rattle.ixp_rows.specs.Reading.{sum}
use Rattle.ixp_rows.proofs.read.sum.Given as goal

abbrev pub invariant-each : goal.invariant-each
invariant-each l = l.total + sum (drop l.count-index l.counts) ≡ sum l.fn.counts
