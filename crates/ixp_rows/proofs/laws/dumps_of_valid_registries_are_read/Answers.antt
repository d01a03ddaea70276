use Rattle.ixp_rows.proofs.ValidLines.{read_again}
use Rattle.ixp_rows.proofs.laws.dumps_of_valid_registries_are_read.Goals as goal

pub returns : goal.returns
returns c = read_again
