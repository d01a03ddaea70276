use Rattle.std.proofs.Common.{subst}
use Rattle.ixp_pfxset.proofs.Fronts.{AddsRows, some_front_block}
use Rattle.ixp_pfxset.proofs.SortedBlocks.{sorted_blocks}
use Rattle.ixp_pfxset.proofs.plain.blocks_plain.Goals as goal

pub returns : goal.returns
returns c =
    let rows = c.args.rows.now in
    let list = c.in_ok-list.list.items in
    let fronts = c.in_ok-blocks.blocks.items in
    let members = subst (λ xs. AddsRows xs c.args.mode c.args.high xs fronts) c.deref.ensures.value c.in_ok-blocks.ensures in
    sorted_blocks rows c.args.mode c.args.high fronts c.in_order.result.items
    (some_front_block rows list c.args.mode c.args.high c.in_ok-list.ensures.members fronts members) c.in_order.ensures
