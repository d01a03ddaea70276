use Rattle.std.proofs.Common.{◌≡◌, take}
use Rattle.std.specs.Prelude.{map}
use Rattle.ixp_roa.specs.Compacts.{roa_of}
use Rattle.ixp_roa.proofs.ordered.compacted.Given as goal

abbrev pub invariant-loop-row : goal.invariant-loop-row
invariant-loop-row l = map roa_of l.compact.items ≡ take l.row-index l.rows
