use Rattle.std.proofs.Common.{subst, ap, Ok, Err}
use Rattle.ixp_num.specs.Answers.{AddrAnswer}
use Rattle.ixp_lang.specs.RouteReading.{Tells, route_end}
use Rattle.ixp_lang.proofs.reading.fields.from_next_hop.Goals as goal

pub returns-in-Ok : goal.returns-in-Ok
returns-in-Ok c = (
  Ok c.in-Ok.next_hop,
  subst (λ f. AddrAnswer f (Ok c.in-Ok.next_hop)) c.at_blank.ensures.field c.in-Ok.ensures,
  subst (λ t. Tells (λ r. r) c.route_with.result (route_end c.args.net c.args.path c.in-Ok.next_hop t)) c.at_blank.ensures.rest c.route_with.ensures,
)

pub returns-in-Err : goal.returns-in-Err
returns-in-Err c = (Err c.in-Err.fault, subst (λ f. AddrAnswer f (Err c.in-Err.fault)) c.at_blank.ensures.field c.in-Err.ensures, ap Err c.left_at.ensures)
