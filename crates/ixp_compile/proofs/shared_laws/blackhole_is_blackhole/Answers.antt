use Rattle.ixp_compile.proofs.NetTests.{blackhole_answers}
use Rattle.ixp_compile.proofs.shared_laws.blackhole_is_blackhole.Goals as goal

pub returns : goal.returns
returns c = blackhole_answers
