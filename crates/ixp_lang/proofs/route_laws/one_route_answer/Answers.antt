use Rattle.ixp_lang.proofs.RouteAnswerLaws.{one_route}
use Rattle.ixp_lang.proofs.route_laws.one_route_answer.Goals as goal

pub returns : goal.returns
returns c = one_route
