use Rattle.std.proofs.Common.{◌≡◌, take}
use Rattle.ixp_glass.specs.Kept.{others}
use Rattle.ixp_glass.proofs.kept.others.Given as goal

abbrev pub invariant-each : goal.invariant-each
invariant-each l = l.rows ≡ others l.router l.interface (take l.row-index l.kept)
