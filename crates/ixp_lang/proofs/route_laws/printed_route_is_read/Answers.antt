use Rattle.ixp_lang.proofs.PrintedRoutes.{route_printed}
use Rattle.ixp_lang.proofs.route_laws.printed_route_is_read.Goals as goal

pub returns : goal.returns
returns c = λ r bounded one. (route_printed r bounded, bounded, one)
