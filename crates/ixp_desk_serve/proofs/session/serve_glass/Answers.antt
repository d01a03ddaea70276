use Rattle.std.proofs.Common.{◌≡◌, ◌∙◌, subst}
use Rattle.ixp_io.specs.Faults.{Rose}
use Rattle.ixp_desk_serve.specs.Sessions.{ServesLink}
use Rattle.ixp_desk_serve.proofs.Seats.{of_last}
use Rattle.ixp_desk_serve.proofs.session.serve_glass.Goals as goal

pub returns-in-Some : goal.returns-in-Some
returns-in-Some g c =
    let nothing = of_last (λ h. h ≡ c.args.holds.1) c.in-Ok.seats.items c.pop.new.self.items c.in-Some.holder c.in-Some.ensures.items c.in-Ok.ensures.seats ∙ c.requires.nothing in
    subst
    (λ h. ServesLink (c.args.seat, h) (g.C.Clock.given c.args.clock.now) (g.C.Clock.given c.serve_seats-keeper.new.clock) (g.L.Stream.left c.args.link.now) (g.L.Stream.left c.serve_seats-keeper.new.link)
    (g.L.Stream.written c.args.link.now) (g.L.Stream.written c.serve_seats-keeper.new.link) (Rose (g.L.Stream.read_faults c.args.link.now) (g.L.Stream.read_faults c.serve_seats-keeper.new.link))
    (Rose (g.L.Stream.write_faults c.args.link.now) (g.L.Stream.write_faults c.serve_seats-keeper.new.link)) (g.P.Keeper.table c.serve_seats-keeper.result.1) (g.P.Keeper.faults c.serve_seats-keeper.result.1)
    c.serve_seats-keeper.result.0)
    nothing c.serve_seats-keeper.ensures
