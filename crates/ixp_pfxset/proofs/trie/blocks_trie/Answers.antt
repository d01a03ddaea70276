use Rattle.std.proofs.Common.{sym, subst}
use Rattle.std.specs.List.Sorted.{IsNonDecreasingBy}
use Rattle.ixp_num.specs.declared.family.Family.TheVariants.{V4, V6}
use Rattle.ixp_pfxset.specs.Groups.{rank}
use Rattle.ixp_pfxset.proofs.Families.{AddsFamily, both_families}
use Rattle.ixp_pfxset.proofs.SortedBlocks.{sorted_blocks}
use Rattle.ixp_pfxset.proofs.trie.blocks_trie.Goals as goal

pub room_for-requires : goal.room_for-requires
room_for-requires c = subst (IsNonDecreasingBy rank) (sym c.deref.ensures.value) c.in_ok-list.ensures.sorted

pub merge_family-requires : goal.merge_family-requires
merge_family-requires c = subst (IsNonDecreasingBy rank) (sym c.deref-2.ensures.value) c.in_ok-list.ensures.sorted

pub merge_family-requires-2 : goal.merge_family-requires-2
merge_family-requires-2 c = subst (IsNonDecreasingBy rank) (sym c.deref-3.ensures.value) c.in_ok-list.ensures.sorted

pub returns : goal.returns
returns c =
    let rows = c.args.rows.now in
    let mode = c.args.mode in
    let high = c.args.high in
    let list = c.in_ok-list.list.items in
    let four = c.merge_family.new.out.items in
    let six = c.merge_family-2.new.out.items in
    let room = subst (λ ts. AddsFamily list mode high V4 ts four) c.in_ok-blocks.ensures (subst (λ xs. AddsFamily xs mode high V4 c.in_ok-blocks.blocks.items four) c.deref-2.ensures.value c.in_ok-merge_family.ensures) in
    let other = subst (λ xs. AddsFamily xs mode high V6 four six) c.deref-3.ensures.value c.in_ok-merge_family-2.ensures in
    sorted_blocks rows mode high six c.in_order.result.items (both_families rows list mode high c.in_ok-list.ensures.members four six room other) c.in_order.ensures
