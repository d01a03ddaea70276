use Rattle.ixp_desk_link.proofs.LinkTurns.{held, placed}
use Rattle.ixp_desk_link.proofs.caller.CallerDeskLinkSeats.answer.Goals as goal

pub returns-in-Hold-clause-turn : goal.returns-in-Hold-clause-turn
returns-in-Hold-clause-turn g c =
    held c.args.seats.now (c.hold.new.seat, c.hold.new.holds) (g.C.Clock.given c.args.clock.now) c.args.call c.in-Hold.secret c.as_slice-in-Hold.result.now c.in-Hold.router c.in-Hold.interface c.in-Hold.routes c.hold.result
    c.in-Hold.is c.as_slice-in-Hold.ensures c.hold.ensures.grows c.hold.ensures.begins c.hold.ensures.turn

pub returns-in-GlassPlace-clause-turn : goal.returns-in-GlassPlace-clause-turn
returns-in-GlassPlace-clause-turn g c =
    placed c.args.seats.now (c.fate_shown.new.seat, c.fate_shown.new.holds) (g.C.Clock.given c.args.clock.now) c.args.call c.in-GlassPlace.secret c.as_slice-in-GlassPlace.result.now c.in-GlassPlace.router c.in-GlassPlace.interface c.in-GlassPlace.place c.fate_shown.result
    c.in-GlassPlace.is c.as_slice-in-GlassPlace.ensures c.fate_shown.ensures.grows c.fate_shown.ensures.begins c.fate_shown.ensures.turn
