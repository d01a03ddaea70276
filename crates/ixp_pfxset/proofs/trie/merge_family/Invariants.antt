use Rattle.ixp_pfxset.proofs.Families.{AddsShort}
use Rattle.ixp_pfxset.proofs.trie.merge_family.Given as goal

abbrev pub invariant-loop-l : goal.invariant-loop-l
invariant-loop-l l = AddsShort l.list l.mode l.high l.family l.fn.out.items l.l l.out.items
