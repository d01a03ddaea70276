use Rattle.ixp_pfxset.proofs.Least.{no_halves}
use Rattle.ixp_pfxset.proofs.laws.no_siblings_with_equal_bounds.Goals as goal

pub returns : goal.returns
returns c = λ rows mode high s t p is_s is_t at bt low. no_halves rows high mode s t p is_s is_t at bt low
