use Rattle.std.proofs.Common.{refl}
use Rattle.ixp_compile.specs.Generated.{header_inputs}
use Rattle.ixp_compile.proofs.NetTests.{transit_runs}
use Rattle.ixp_compile.proofs.shared_laws.transit_refuses.Goals as goal

pub returns : goal.returns
returns c = λ env k r router route drop is. transit_runs env k router.asn.0 drop (header_inputs r router) r route refl is
