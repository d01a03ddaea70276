use Rattle.ixp_compile.proofs.GoingDown.{down_runs}
use Rattle.ixp_compile.proofs.pipe_laws.down_passes_on.Goals as goal

pub returns : goal.returns
returns c = down_runs
