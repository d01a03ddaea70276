use Rattle.std.proofs.Common.{Some, subst}
use Rattle.ixp_glass_holds.specs.Calls.{IsHeld}
use Rattle.ixp_desk_explain.proofs.Reports.{or_left}
use Rattle.ixp_desk_explain.proofs.showing.told_held.Goals as goal

pub returns-in-Ok-Some-clause-shows : goal.returns-in-Ok-Some-clause-shows
returns-in-Ok-Some-clause-shows g c log x legal =
    let held = subst (λ o. IsHeld c.held.new.seat c.args.router.now c.args.interface o) c.in-Ok-Some.field-0-is c.in-Ok-Some.ensures.held in
    (Some c.in-Ok-Some.routes, or_left (λ is. (held, is)) (c.told_routes.ensures log x legal))
