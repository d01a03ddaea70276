use Rattle.ixp_pfxset.proofs.Least.{same_blocks, same_members}
use Rattle.ixp_pfxset.proofs.laws.blocks_follow_from_allowed.Goals as goal

pub returns-clause-allowed : goal.returns-clause-allowed
returns-clause-allowed c = λ rows others mode high same. same_blocks rows others high mode same

pub returns-clause-members : goal.returns-clause-members
returns-clause-members c = λ rows others mode high same. same_members rows others high mode (λ r. (same r).0) (λ r. (same r).1)
