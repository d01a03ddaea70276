use Rattle.std.proofs.Common.{Ok, subst}
use Rattle.ixp_desk_lock.specs.Calls.{OwnTexts}
use Rattle.ixp_desk_explain.proofs.Places.{own_in}
use Rattle.ixp_desk_explain.proofs.holding.hold_session.Goals as goal

pub returns-in-Ok-clause-turn : goal.returns-in-Ok-clause-turn
returns-in-Ok-clause-turn g c =
    let own = subst (λ r. OwnTexts c.args.secret.now c.args.router.now c.args.interface r c.args.seat.now c.own_text.new.seat) c.in-Ok.is c.own_text.ensures.turns in
    let x = own_in c.args.secret.now c.args.router.now c.args.interface c.in-Ok.text c.args.seat.now c.own_text.new.seat c.own_text.ensures.grows.legal own in
    (Ok c.in-Ok.text, own, (x, c.hold_at.ensures.holds c.own_text.new.seat.2 x c.own_text.ensures.grows.legal))
