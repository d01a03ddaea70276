use Rattle.std.proofs.Common.{length}
use Rattle.std.specs.List.{AllByRecursion}
use Rattle.ixp_machine.proofs.widths.read_all.Given as goal

abbrev pub invariant-each : goal.invariant-each
invariant-each g l = AllByRecursion g.T.Fits.fits l.left → AllByRecursion g.T.Fits.fits l.fn.values

abbrev pub decreases-each : goal.decreases-each
decreases-each g l = length l.left
