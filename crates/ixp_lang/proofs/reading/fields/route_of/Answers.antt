use Rattle.std.proofs.Common.{subst, ap, Ok, Err}
use Rattle.ixp_num.specs.Answers.{PrefixAnswer}
use Rattle.ixp_lang.specs.RouteReading.{FromPath}
use Rattle.ixp_lang.proofs.reading.fields.route_of.Goals as goal

pub returns-in-Ok : goal.returns-in-Ok
returns-in-Ok c = (
  Ok c.in-Ok.net,
  subst (λ f. PrefixAnswer f (Ok c.in-Ok.net)) c.at_blank.ensures.field c.in-Ok.ensures,
  subst (λ t. FromPath c.in-Ok.net t c.from_path.result) c.at_blank.ensures.rest c.from_path.ensures,
)

pub returns-in-Err : goal.returns-in-Err
returns-in-Err c = (Err c.in-Err.fault, subst (λ f. PrefixAnswer f (Err c.in-Err.fault)) c.at_blank.ensures.field c.in-Err.ensures, ap Err c.left_at.ensures)
