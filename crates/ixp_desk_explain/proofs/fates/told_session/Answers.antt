use Rattle.std.proofs.Common.{Ok, subst}
use Rattle.ixp_desk_lock.specs.Calls.{OwnTexts}
use Rattle.ixp_desk_explain.proofs.fates.told_session.Goals as goal

pub returns-in-Ok-clause-turn : goal.returns-in-Ok-clause-turn
returns-in-Ok-clause-turn g c before now p =
    (Ok c.in-Ok._own, subst (λ r. OwnTexts c.args.secret.now c.args.router.now c.args.interface r c.args.seat.now c.own_text.new.seat) c.in-Ok.is c.own_text.ensures.turns, c.told_held.ensures.shows before now p)
