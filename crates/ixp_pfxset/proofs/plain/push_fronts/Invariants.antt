use Rattle.ixp_pfxset.proofs.Fronts.{AddsBelow}
use Rattle.ixp_pfxset.proofs.plain.push_fronts.Given as goal

abbrev pub invariant-loop-len : goal.invariant-loop-len
invariant-loop-len l = AddsBelow l.list l.fn.blocks.items l.r l.high l.len l.blocks.items
