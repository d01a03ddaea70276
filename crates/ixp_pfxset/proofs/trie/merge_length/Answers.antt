use Rattle.std.proofs.Common.{sym, subst}
use Rattle.std.specs.List.Sorted.{IsPermutation}
use Rattle.std.proofs.lemmas.List.Sorted.{IsPermutation-refl}
use Rattle.ixp_pfxset.proofs.OneLength.{rows_within, length_added}
use Rattle.ixp_pfxset.proofs.trie.merge_length.Goals as goal

pub merge-requires-clause-within : goal.merge-requires-clause-within
merge-requires-clause-within c =
    let rows = c.args.rows.now in
    let moved = subst (λ xs. IsPermutation xs rows) (sym c.requires.alike) (IsPermutation-refl rows) in
    rows_within rows rows c.args.family c.args.l moved c.whole-whole.result c.whole-whole.ensures.family c.whole-whole.ensures.len

pub returns : goal.returns
returns c =
    let rows = c.args.rows.now in
    let moved = subst (λ xs. IsPermutation xs rows) (sym c.requires.alike) (IsPermutation-refl rows) in
    length_added rows rows c.args.family c.args.l moved c.whole-whole.result c.whole-whole.ensures.family c.whole-whole.ensures.len c.args.high c.in_ok-full.full c.in_ok-full.ensures.full
    c.args.out.now.items c.merge.new.out.items c.push_if.new.out.items c.in_ok-full.ensures.adds c.in_ok-push_if.ensures
