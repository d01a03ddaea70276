use Rattle.std.proofs.Common.{refl, arith}
use Rattle.ixp_io.specs.Faults.{Rose}
use Rattle.ixp_io.proofs.Streams.{Rose-since}
use Rattle.ixp_http_link.proofs.Leftovers.{so_far_ends, so_far_on}
use Rattle.ixp_http_link.proofs.Runs.{run_on, few_on}
use Rattle.ixp_http_link.proofs.Endings.{run_ends}
use Rattle.ixp_http_link.proofs.serving.serve_with.Goals as goal

pub returns-in-Some-clause-serves : goal.returns-in-Some-clause-serves
returns-in-Some-clause-serves g c =
    let told = g.L.Stream in
    let run = c.loop-served.invariant in
    run_ends g.D.Desk.turn (c.args.desk.now, c.args.store.now, c.args.clock.now) (c.loop-served.desk, c.loop-served.store, c.loop-served.clock) (c.exchange.new.desk, c.exchange.new.store, c.exchange.new.clock) (told.left c.args.link.now) (told.left c.loop-served.link)
    (told.left c.exchange.new.link) c.loop-served.buf c.exchange.new.buf (told.written c.args.link.now) (told.written c.loop-served.link)
    (told.written c.exchange.new.link) c.loop-served.answered
    (Rose (told.read_faults c.loop-served.link) (told.read_faults c.exchange.new.link))
    (Rose (told.write_faults c.loop-served.link) (told.write_faults c.exchange.new.link))
    (Rose (told.read_faults c.args.link.now) (told.read_faults c.exchange.new.link))
    (Rose (told.write_faults c.args.link.now) (told.write_faults c.exchange.new.link))
    c.in-Some.served run.few run.run
    (Rose-since (told.read_faults c.args.link.now) (told.read_faults c.loop-served.link) (told.read_faults c.exchange.new.link) run.reads)
    (Rose-since (told.write_faults c.args.link.now) (told.write_faults c.loop-served.link) (told.write_faults c.exchange.new.link) run.writes)
    c.in-Some.ensures.steps

pub loop-served-preserved : goal.loop-served-preserved
loop-served-preserved g c =
    let told = g.L.Stream in
    let run = c.loop-served.invariant in
    let step = c.in-None.ensures.steps in
    record {
      run =
          run_on g.D.Desk.turn (c.args.desk.now, c.args.store.now, c.args.clock.now) (c.loop-served.desk, c.loop-served.store, c.loop-served.clock) (c.exchange.new.desk, c.exchange.new.store, c.exchange.new.clock) (told.left c.args.link.now) (told.left c.loop-served.link)
          (told.left c.exchange.new.link) c.loop-served.buf c.exchange.new.buf (told.written c.args.link.now) (told.written c.loop-served.link)
          (told.written c.exchange.new.link) c.loop-served.answered step.0 run.run step.1 step.3 step.4;
      read = so_far_on c.loop-served.answered (told.left c.args.link.now) (told.left c.loop-served.link) (told.left c.exchange.new.link) c.loop-served.buf
          c.exchange.new.buf step.0.request run.read step.3;
      held = c.in-None.ensures.held refl run.held;
      few = few_on step.0.request.closes c.loop-served.answered run.few step.2;
      reads = omega (arith, run.reads, c.in-None.ensures.reads);
      writes = omega (arith, run.writes, c.in-None.ensures.writes);
      fits = c.in-None.ensures.fits;
    }

pub returns-in-Some-clause-leaves : goal.returns-in-Some-clause-leaves
returns-in-Some-clause-leaves g c =
    let told = g.L.Stream in
    let run = c.loop-served.invariant in
    so_far_ends c.loop-served.answered (told.left c.args.link.now) (told.left c.loop-served.link) (told.left c.exchange.new.link) c.loop-served.buf
    c.in-Some.served run.read (c.in-Some.ensures.leaves run.held)
