use Rattle.ixp_pfxset.proofs.Least.{low_high, row_within}
use Rattle.ixp_pfxset.proofs.Matching.{block_bounds}
use Rattle.ixp_pfxset.proofs.laws.bounds_of_blocks.Goals as goal

pub returns-clause-length : goal.returns-clause-length
returns-clause-length c = block_bounds

pub returns-clause-order : goal.returns-clause-order
returns-clause-order c = λ rows mode high t is. (low_high rows high mode t is).0

pub returns-clause-most : goal.returns-clause-most
returns-clause-most c = λ rows mode high t is. (low_high rows high mode t is).1

pub returns-clause-row : goal.returns-clause-row
returns-clause-row c = λ rows mode high t is. row_within rows high mode t is
