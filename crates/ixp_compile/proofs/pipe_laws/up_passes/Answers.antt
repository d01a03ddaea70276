use Rattle.ixp_compile.proofs.Refusals.{up_runs}
use Rattle.ixp_compile.proofs.pipe_laws.up_passes.Goals as goal

pub returns : goal.returns
returns c = up_runs
