use Rattle.ixp_num.proofs.PrintedAddresses.{any_spelling}
use Rattle.ixp_num.proofs.laws.any_spelling.Goals as goal

pub returns : goal.returns
returns c = any_spelling
