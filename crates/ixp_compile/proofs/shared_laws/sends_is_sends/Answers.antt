use Rattle.ixp_compile.proofs.Steered.{sends_runs}
use Rattle.ixp_compile.proofs.shared_laws.sends_is_sends.Goals as goal

pub returns : goal.returns
returns c = sends_runs
