use Rattle.ixp_pfxset.proofs.Merging.{member_is_block, block_is_member, blocks_ascend}
use Rattle.ixp_pfxset.proofs.Orders.{one_list, pattern_total}
use Rattle.ixp_pfxset.specs.BlockList.{blocks}
use Rattle.ixp_pfxset.proofs.laws.blocks_are.Goals as goal

pub returns-clause-members : goal.returns-clause-members
returns-clause-members c = λ rows mode high t. (member_is_block rows mode high t, block_is_member rows mode high t)

pub returns-clause-ascend : goal.returns-clause-ascend
returns-clause-ascend c = blocks_ascend

pub returns-clause-alone : goal.returns-clause-alone
returns-clause-alone c = λ rows mode high ts up are.
    one_list pattern_total ts (blocks rows mode high) up (blocks_ascend rows mode high)
    (λ t here. block_is_member rows mode high t ((are t).0 here))
    (λ t here. (are t).1 (member_is_block rows mode high t here))
