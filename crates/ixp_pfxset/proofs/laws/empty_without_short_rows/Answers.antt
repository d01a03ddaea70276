use Rattle.ixp_pfxset.proofs.Least.{empty_says, empty_from}
use Rattle.ixp_pfxset.proofs.laws.empty_without_short_rows.Goals as goal

pub returns : goal.returns
returns c = λ rows mode high. (empty_says rows high mode, empty_from rows high mode)
