use Rattle.ixp_compile.proofs.Outgoing.{out_runs}
use Rattle.ixp_compile.proofs.shared_laws.out_cleans.Goals as goal

pub returns : goal.returns
returns c = λ env k router route tells same. out_runs env k router route (tells route same)
