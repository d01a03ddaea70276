use Rattle.ixp_cli_plain.proofs.Telling.{on_err, takes_front, takes_on}
use Rattle.ixp_cli.specs.Waits.{routers_text, served_text}
use Rattle.ixp_cli.proofs.server.write_served.Goals as goal

pub returns-in_err-write_counted-clause-err : goal.returns-in_err-write_counted-clause-err
returns-in_err-write_counted-clause-err g c =
    let before = g.K.Stream.written c.args.output.now in
    let now = g.K.Stream.written c.write_counted.new.errors in
    on_err c.from_residual.result _ (takes_front before now (served_text c.args.links) (routers_text c.args.routers) c.in_err-write_counted.ensures.err)

pub returns-in_err-write_routers-clause-err : goal.returns-in_err-write_routers-clause-err
returns-in_err-write_routers-clause-err g c =
    let before = g.K.Stream.written c.args.output.now in
    let between = g.K.Stream.written c.write_counted.new.errors in
    let now = g.K.Stream.written c.write_routers.new.output in
    on_err c.from_residual-in_err-write_routers.result _
    (takes_on before between now (served_text c.args.links) (routers_text c.args.routers) c.in_ok-write_counted.ensures.ok c.in_err-write_routers.ensures.err)
