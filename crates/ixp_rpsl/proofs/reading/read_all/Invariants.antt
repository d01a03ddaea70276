use Rattle.std.proofs.Common.{length}
use Rattle.ixp_rpsl.specs.Lines.{lines_ahead, lines_in}
use Rattle.ixp_rpsl.specs.Passes.{Passes}
use Rattle.ixp_rpsl.proofs.reading.read_all.Given as goal

abbrev pub invariant-objects : goal.invariant-objects
invariant-objects l = Passes (lines_in l.fn.t) (lines_ahead l.ahead) l.fn.found l.found

abbrev pub decreases-objects : goal.decreases-objects
decreases-objects l = length l.ahead.text.now
