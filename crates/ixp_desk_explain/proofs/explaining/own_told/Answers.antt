use Rattle.std.proofs.Common.{Ok, Err, subst}
use Rattle.ixp_desk_lock.specs.Calls.{OwnTexts}
use Rattle.ixp_desk_explain.proofs.Places.{own_in}
use Rattle.ixp_desk_explain.proofs.explaining.own_told.Goals as goal

pub returns-in-Ok-clause-turn : goal.returns-in-Ok-clause-turn
returns-in-Ok-clause-turn g c =
    let call = c.args.call.now in
    let turns = subst (λ k. OwnTexts k call.router call.interface c.own_text.result c.args.seat.now c.own_text.new.seat) c.as_slice.ensures c.own_text.ensures.turns in
    let own = subst (λ r. OwnTexts call.secret call.router call.interface r c.args.seat.now c.own_text.new.seat) c.in-Ok.is turns in
    let x = own_in call.secret call.router call.interface c.in-Ok.text c.args.seat.now c.own_text.new.seat c.own_text.ensures.grows.legal own in
    (Ok c.in-Ok.text, own, (x, c.told_own.ensures c.own_text.new.seat.2 x c.own_text.ensures.grows.legal))

pub returns-in-Err-clause-turn : goal.returns-in-Err-clause-turn
returns-in-Err-clause-turn g c =
    let call = c.args.call.now in
    let turns = subst (λ k. OwnTexts k call.router call.interface c.own_text.result c.args.seat.now c.own_text.new.seat) c.as_slice.ensures c.own_text.ensures.turns in
    (Err c.in-Err.fault, subst (λ r. OwnTexts call.secret call.router call.interface r c.args.seat.now c.own_text.new.seat) c.in-Err.is turns, c.own_fault.ensures)
