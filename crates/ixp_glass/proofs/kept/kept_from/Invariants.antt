use Rattle.std.proofs.Common.{take}
use Rattle.ixp_glass.specs.Kept.{AreKept}
use Rattle.ixp_glass.proofs.kept.kept_from.Given as goal

abbrev pub invariant-each : goal.invariant-each
invariant-each l = AreKept (take l.row-index l.kept) l.router l.interface l.routes l.text l.roas → ⊥
