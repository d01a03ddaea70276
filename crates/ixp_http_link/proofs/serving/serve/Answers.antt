use Rattle.std.proofs.Common.{[], refl, arith}
use Rattle.ixp_io.specs.Faults.{Rose}
use Rattle.ixp_http.specs.Answers.{most_held}
use Rattle.ixp_http.proofs.Together.{taken_none}
use Rattle.ixp_http_link.specs.declared.ends.LinkEnd.TheVariants.{NoMemory}
use Rattle.ixp_http_link.proofs.Leftovers.{none_read}
use Rattle.ixp_http_link.proofs.Endings.{nothing_served}
use Rattle.ixp_http_link.proofs.Wholes.{exact}
use Rattle.ixp_http_link.proofs.Completes.{complete}
use Rattle.ixp_http_link.proofs.serving.serve.Goals as goal

pub returns-in-Ok-clause-exact : goal.returns-in-Ok-clause-exact
returns-in-Ok-clause-exact g c =
    let told = g.L.Stream in
    exact g.D.Desk.turn (c.args.desk.now, c.args.store.now, c.args.clock.now) (c.serve_with.new.desk, c.serve_with.new.store, c.serve_with.new.clock) (told.left c.args.link.now) (told.written c.args.link.now)
    (told.written c.serve_with.new.link) (Rose (told.read_faults c.args.link.now) (told.read_faults c.serve_with.new.link))
    (Rose (told.write_faults c.args.link.now) (told.write_faults c.serve_with.new.link)) c.serve_with.result c.serve_with.ensures.serves

pub returns-in-Ok-clause-complete : goal.returns-in-Ok-clause-complete
returns-in-Ok-clause-complete g c =
    let told = g.L.Stream in
    complete g.D.Desk.turn (c.args.desk.now, c.args.store.now, c.args.clock.now) (c.serve_with.new.desk, c.serve_with.new.store, c.serve_with.new.clock) (told.left c.args.link.now) (told.written c.args.link.now)
    (told.written c.serve_with.new.link) (Rose (told.read_faults c.args.link.now) (told.read_faults c.serve_with.new.link))
    (Rose (told.write_faults c.args.link.now) (told.write_faults c.serve_with.new.link)) c.serve_with.result c.serve_with.ensures.serves

pub returns-in-Err-clause-serves : goal.returns-in-Err-clause-serves
returns-in-Err-clause-serves g c =
    let told = g.L.Stream in
    nothing_served g.D.Desk.turn (c.args.desk.now, c.args.store.now, c.args.clock.now) (told.left c.args.link.now) (told.written c.args.link.now) (told.written c.tell_memory.new.output)
    (Rose (told.read_faults c.args.link.now) (told.read_faults c.tell_memory.new.output))
    (Rose (told.write_faults c.args.link.now) (told.write_faults c.tell_memory.new.output))
    c.tell_memory.ensures.tried

pub returns-in-Err-clause-leaves : goal.returns-in-Err-clause-leaves
returns-in-Err-clause-leaves g c =
    let told = g.L.Stream in
    none_read 0 (told.left c.args.link.now) (told.left c.tell_memory.new.output) [] (record { end = NoMemory; requests = 0 }) refl (λ taken rest less. less)
    (taken_none most_held (told.left c.args.link.now) (told.left c.tell_memory.new.output) [] c.tell_memory.ensures.left (omega arith))
