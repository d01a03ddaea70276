-- A list of the blocks that is put in order is the merged set.
use Rattle.std.proofs.Common.{◌≡◌, ℕ, ◌↔◌, List, [], ◌∷◌}
use Rattle.std.specs.List.{Contains}
use Rattle.std.specs.List.Sorted.{IsStrictlySortedBy}
use Rattle.ixp_num.specs.declared.pattern.Pattern.{Pattern}
use Rattle.ixp_num.specs.declared.prefix.Prefix.{Prefix}
use Rattle.ixp_num_tables.specs.Tables.{Ascends}
use Rattle.ixp_num_sorted.specs.Keys.{pattern_key}
use Rattle.ixp_num_sorted.specs.Sorted.{IsInOrder}
use Rattle.ixp_pfxset.specs.Blocks.{IsBlock}
use Rattle.ixp_pfxset.specs.BlockList.{pattern_order, blocks}
use Rattle.ixp_pfxset.specs.declared.mode.Mode.{Mode}
use Rattle.ixp_pfxset.proofs.Merging.{member_is_block, block_is_member, blocks_ascend}
use Rattle.ixp_pfxset.proofs.Orders.{one_list, pattern_total}

strictly_sorted : (ts : List Pattern) → Ascends pattern_key ts → IsStrictlySortedBy pattern_order ts
unfolding IsStrictlySortedBy
strictly_sorted [] up = tt
strictly_sorted (t ∷ ts) up = (up.0, strictly_sorted ts up.1)

pub sorted_blocks : (rows : List Prefix) (mode : Mode) (high : ℕ) (all ts : List Pattern)
    → ((t : Pattern) → Contains all t ↔ IsBlock rows mode high t) → IsInOrder pattern_key all ts → ts ≡ blocks rows mode high
sorted_blocks rows mode high all ts members sorted =
    one_list pattern_total ts (blocks rows mode high) (strictly_sorted ts sorted.ascends) (blocks_ascend rows mode high)
    (λ t here. block_is_member rows mode high t ((members t).0 (sorted.adds_none t here)))
    (λ t here. sorted.keeps t ((members t).1 (member_is_block rows mode high t here)))
