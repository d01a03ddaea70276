use Rattle.std.proofs.Common.{take}
use Rattle.ixp_pfxset.proofs.Fronts.{AddsRows}
use Rattle.ixp_pfxset.proofs.plain.all_fronts.Given as goal

abbrev pub invariant-loop-r : goal.invariant-loop-r
invariant-loop-r l = AddsRows l.list l.mode l.high (take l.r-index l.list) l.blocks.items
