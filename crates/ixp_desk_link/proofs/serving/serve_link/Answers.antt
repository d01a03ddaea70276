use Rattle.ixp_io.specs.Faults.{Rose}
use Rattle.ixp_http_link.proofs.Completes.{complete}
use Rattle.ixp_http_link.proofs.Keeps.{served_keeps}
use Rattle.ixp_http_link.proofs.Mapped.{serves}
use Rattle.ixp_http_link.proofs.Wholes.{exact}
use Rattle.ixp_desk_link.specs.Turns.{LinkTurn, SeesMore}
use Rattle.ixp_desk_link.proofs.LinkTurns.{turns_see}
use Rattle.ixp_desk_link.proofs.serving.serve_link.Goals as goal

pub returns-clause-serves : goal.returns-clause-serves
returns-clause-serves g c = serves (λ d. (d.1, g.C.Clock.given d.2)) _ LinkTurn (λ d call o e t. t) _ _ _ _ _ _ _ _ c.serve.ensures.serves

pub returns-clause-exact : goal.returns-clause-exact
returns-clause-exact g c =
    exact LinkTurn (c.args.seats.now, g.C.Clock.given c.args.clock.now) (c.serve.new.store, g.C.Clock.given c.serve.new.clock) (g.L.Stream.left c.args.link.now) (g.L.Stream.written c.args.link.now) (g.L.Stream.written c.serve.new.link)
    (Rose (g.L.Stream.read_faults c.args.link.now) (g.L.Stream.read_faults c.serve.new.link)) (Rose (g.L.Stream.write_faults c.args.link.now) (g.L.Stream.write_faults c.serve.new.link)) c.serve.result
    (serves (λ d. (d.1, g.C.Clock.given d.2)) _ LinkTurn (λ d call o e t. t) _ _ _ _ _ _ _ _ c.serve.ensures.serves)

pub returns-clause-complete : goal.returns-clause-complete
returns-clause-complete g c =
    complete LinkTurn (c.args.seats.now, g.C.Clock.given c.args.clock.now) (c.serve.new.store, g.C.Clock.given c.serve.new.clock) (g.L.Stream.left c.args.link.now) (g.L.Stream.written c.args.link.now) (g.L.Stream.written c.serve.new.link)
    (Rose (g.L.Stream.read_faults c.args.link.now) (g.L.Stream.read_faults c.serve.new.link)) (Rose (g.L.Stream.write_faults c.args.link.now) (g.L.Stream.write_faults c.serve.new.link)) c.serve.result
    (serves (λ d. (d.1, g.C.Clock.given d.2)) _ LinkTurn (λ d call o e t. t) _ _ _ _ _ _ _ _ c.serve.ensures.serves)

pub returns-clause-sees : goal.returns-clause-sees
returns-clause-sees g c =
    served_keeps LinkTurn (λ d e. SeesMore d.0 e.0) (c.args.seats.now, g.C.Clock.given c.args.clock.now) (c.serve.new.store, g.C.Clock.given c.serve.new.clock) _ _ _ _ _ _ turns_see
    (serves (λ d. (d.1, g.C.Clock.given d.2)) _ LinkTurn (λ d call o e t. t) _ _ _ _ _ _ _ _ c.serve.ensures.serves)
