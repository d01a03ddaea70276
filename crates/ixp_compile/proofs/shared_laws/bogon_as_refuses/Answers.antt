use Rattle.std.proofs.Common.{refl}
use Rattle.ixp_compile.specs.Generated.{header_inputs}
use Rattle.ixp_compile.proofs.NetTests.{bogon_as_runs}
use Rattle.ixp_compile.proofs.shared_laws.bogon_as_refuses.Goals as goal

pub returns : goal.returns
returns c = λ env k r router route stands drop is. bogon_as_runs env k router.asn.0 drop (header_inputs r router) r route refl stands.ascend is
