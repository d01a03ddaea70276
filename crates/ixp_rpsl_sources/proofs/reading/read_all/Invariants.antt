use Rattle.std.proofs.Common.{length}
use Rattle.ixp_rpsl.specs.Lines.{lines_ahead, lines_in}
use Rattle.ixp_rpsl_sources.specs.Said.{unmarked}
use Rattle.ixp_rpsl_sources.specs.Told.{Passes, said_in}
use Rattle.ixp_rpsl_sources.proofs.reading.read_all.Given as goal

abbrev pub invariant-objects : goal.invariant-objects
invariant-objects l = Passes l.fn.sources (lines_in (unmarked l.fn.t)) (lines_ahead l.ahead) (said_in l.fn.gleaned) (said_in l.gleaned)

abbrev pub decreases-objects : goal.decreases-objects
decreases-objects l = length l.ahead.text.now
