use Rattle.ixp_compile.proofs.Steered.{count_runs}
use Rattle.ixp_compile.proofs.shared_laws.count_is_prepends.Goals as goal

pub returns : goal.returns
returns c = count_runs
