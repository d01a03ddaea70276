use Rattle.std.proofs.lemmas.List.Sorted.{Contains-permutation, IsPermutation-sym}
use Rattle.ixp_pfxset.proofs.trie.new_in_groups.Goals as goal

pub returns-clause-members : goal.returns-clause-members
returns-clause-members c =
    let old = c.in_ok-list.list.items in
    let new = c.in_groups.result.items in
    λ q. (
      (λ there. (c.in_ok-list.ensures.members q).0 (Contains-permutation new old q (IsPermutation-sym old new c.in_groups.ensures.rows) there)),
      (λ is. Contains-permutation old new q c.in_groups.ensures.rows ((c.in_ok-list.ensures.members q).1 is)),
    )
