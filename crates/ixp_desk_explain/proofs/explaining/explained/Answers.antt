use Rattle.std.proofs.Common.{Ok, IfOk, refl, subst}
use Rattle.ixp_desk.specs.Publications.{Answers, IsPublished}
use Rattle.ixp_desk_explain.proofs.Places.{grows_self}
use Rattle.ixp_desk_explain.proofs.explaining.explained.Goals as goal

pub returns-in-Ok-clause-turn : goal.returns-in-Ok-clause-turn
returns-in-Ok-clause-turn g c =
    let call = c.args.call.now in
    let answers = subst (λ k. Answers k call.router call.seen (Ok c.in-Ok.text) c.args.seat.now c.published.new.seat) c.as_slice.ensures
    (subst (λ r. Answers c.as_slice.result.now call.router call.seen r c.args.seat.now c.published.new.seat) c.in-Ok.is c.published.ensures.answers) in
    let p = subst (λ r. IfOk r (IsPublished c.args.seat.now.2 c.published.new.seat.2 call.router)) c.in-Ok.is c.published.ensures.headline in
    let grows = c.published.ensures.grows in
    (c.published.new.seat, grows, grows_self c.args.seat.now c.published.new.seat grows, (Ok c.in-Ok.text, answers, (refl, (p, c.told.ensures c.args.seat.now.2 c.published.new.seat.2 p))))
