use Rattle.ixp_compile.proofs.NetTests.{net_runs}
use Rattle.ixp_compile.proofs.shared_laws.net_refuses.Goals as goal

pub returns : goal.returns
returns c = λ env k r router route stands drop tells is same clean. net_runs env k router.asn.0 drop router route same r stands.bounded clean is (tells route same)
