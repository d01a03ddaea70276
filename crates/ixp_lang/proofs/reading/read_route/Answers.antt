use Rattle.std.proofs.Common.{sym, subst, Err}
use Rattle.ixp_lang.specs.RouteAnswers.{RouteAnswer}
use Rattle.ixp_lang.proofs.RouteAnswerLaws.{family_answer, stop_answer}
use Rattle.ixp_lang.proofs.reading.read_route.Goals as goal

pub returns-in-Ok : goal.returns-in-Ok
returns-in-Ok c = family_answer c.args.t.now c.in-Ok.route c.of_one_family.result c.in-Ok.ensures c.of_one_family.ensures

pub returns-in-Err : goal.returns-in-Err
returns-in-Err c = subst (λ f. RouteAnswer c.args.t.now (Err f)) (sym c.placed.ensures) (stop_answer c.args.t.now c.in-Err.stop c.in-Err.ensures)
