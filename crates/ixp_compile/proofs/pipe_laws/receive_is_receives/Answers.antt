use Rattle.ixp_compile.proofs.GoingDown.{receive_runs}
use Rattle.ixp_compile.proofs.pipe_laws.receive_is_receives.Goals as goal

pub returns : goal.returns
returns c = λ env k receiver family route same. receive_runs env k family receiver.rules route same
