use Rattle.std.proofs.Common.{Ok, Err, Option, List, [], ℕ, refl, subst, sym, arith}
use Rattle.ixp_io.specs.Faults.{Rose}
use Rattle.ixp_io.specs.Told.{Takes}
use Rattle.ixp_io.proofs.Streams.{Takes-none}
use Rattle.ixp_http.specs.declared.next.HttpFault.{HttpFault}
use Rattle.ixp_http.specs.declared.next.Next.{Next}
use Rattle.ixp_http.specs.Messages.{First}
use Rattle.ixp_http.specs.Answers.{Leaves, TakesUpTo, Tells, most_held}
use Rattle.ixp_http_link.specs.Steps.{Steps}
use Rattle.ixp_http_link.specs.declared.ends.LinkEnd.TheVariants.{Cut, ReadFault, NoMemory}
use Rattle.ixp_http_link.proofs.Leftovers.{input_ended, none_read, request_leaves, taken_refused}
use Rattle.ixp_http_link.proofs.Settled.{exchanged, was_cut, was_bad}
use Rattle.ixp_http_link.proofs.serving.exchange.Goals as goal

pub returns-in-Ok-Request-clause-steps : goal.returns-in-Ok-Request-clause-steps
returns-in-Ok-Request-clause-steps g c =
    let told = g.L.Stream in
    let left = told.left c.args.link.now in
    let held = c.args.buf.now in
    let read = c.next_request.new.link in
    let done = c.settle.new.output in
    subst (λ (now : Option (List ℕ)). Steps g.D.Desk.turn c.args.answered (c.args.desk.now, c.args.store.now, c.args.clock.now)
    (c.settle.new.desk, c.settle.new.store, c.settle.new.clock) left now held c.next_request.new.buf
    (Takes (told.written c.args.link.now) (told.written done)) (Rose (told.read_faults c.args.link.now) (told.read_faults done))
    (Rose (told.write_faults c.args.link.now) (told.write_faults done)) c.settle.result) (sym c.settle.ensures.left)
    (exchanged g.D.Desk.turn c.args.answered (c.args.desk.now, c.args.store.now, c.args.clock.now)
    (c.settle.new.desk, c.settle.new.store, c.settle.new.clock) left (told.left read) held c.next_request.new.buf c.in-Ok-Request.request
    (Takes (told.written read) (told.written done)) (Takes (told.written c.args.link.now) (told.written done))
    (Rose (told.read_faults c.args.link.now) (told.read_faults done)) (Rose (told.write_faults read) (told.write_faults done))
    (Rose (told.write_faults c.args.link.now) (told.write_faults done)) c.settle.result
    (subst (λ (n : Next). Tells First left (told.left read) held c.next_request.new.buf (Ok n)) c.in-Ok-Request.field-0-is c.in-Ok-Request.ensures.answers)
    (λ t w. subst (λ (before : Option (List ℕ)). Takes before (told.written done) t) c.next_request.ensures.written w)
    (λ f. subst (λ (before : ℕ). Rose before (told.write_faults done)) c.next_request.ensures.write_faults f) c.settle.ensures.settles)

pub returns-in-Ok-Request-clause-leaves : goal.returns-in-Ok-Request-clause-leaves
returns-in-Ok-Request-clause-leaves g c =
    let told = g.L.Stream in
    let left = told.left c.args.link.now in
    let read = told.left c.next_request.new.link in
    request_leaves c.args.answered left read (told.left c.settle.new.output) c.args.buf.now c.next_request.new.buf c.in-Ok-Request.request
    c.settle.result c.settle.ensures.left
    (subst (λ (n : Next). Tells First left read c.args.buf.now c.next_request.new.buf (Ok n)) c.in-Ok-Request.field-0-is c.in-Ok-Request.ensures.answers)
    (subst (λ (n : Next). Leaves left read c.args.buf.now c.next_request.new.buf (Ok n)) c.in-Ok-Request.field-0-is c.in-Ok-Request.ensures.leaves)
    c.settle.ensures.requests

pub returns-in-Ok-End-clause-leaves : goal.returns-in-Ok-End-clause-leaves
returns-in-Ok-End-clause-leaves g c few =
    let told = g.L.Stream in
    let left = told.left c.args.link.now in
    let read = told.left c.next_request.new.link in
    input_ended c.args.answered left read c.args.buf.now
    (subst (λ (n : Next). Tells First left read c.args.buf.now c.next_request.new.buf (Ok n)) c.in-Ok-End.field-0-is c.in-Ok-End.ensures.answers)
    (subst (λ (n : Next). Leaves left read c.args.buf.now c.next_request.new.buf (Ok n)) c.in-Ok-End.field-0-is c.in-Ok-End.ensures.leaves (omega (arith, few)))

pub returns-in-Err-Bad-clause-steps : goal.returns-in-Err-Bad-clause-steps
returns-in-Err-Bad-clause-steps g c =
    let told = g.L.Stream in
    let left = told.left c.args.link.now in
    let held = c.args.buf.now in
    let read = c.next_request.new.link in
    let done = c.refuse.new.output in
    was_bad g.D.Desk.turn c.args.answered (c.args.desk.now, c.args.store.now, c.args.clock.now) left (told.left read) held
    (Takes (told.written read) (told.written done)) (Takes (told.written c.args.link.now) (told.written done))
    (Rose (told.read_faults c.args.link.now) (told.read_faults done)) (Rose (told.write_faults read) (told.write_faults done))
    (Rose (told.write_faults c.args.link.now) (told.write_faults done)) c.in-Err-Bad.status c.refuse.result
    (subst (λ (f : HttpFault). Tells First left (told.left read) held c.next_request.new.buf (Err f)) c.in-Err-Bad.field-0-is c.in-Err-Bad.ensures.answers)
    (λ t w. subst (λ (before : Option (List ℕ)). Takes before (told.written done) t) c.next_request.ensures.written w)
    (λ f. subst (λ (before : ℕ). Rose before (told.write_faults done)) c.next_request.ensures.write_faults f) c.refuse.ensures.refuses

pub returns-in-Err-Bad-clause-leaves : goal.returns-in-Err-Bad-clause-leaves
returns-in-Err-Bad-clause-leaves g c few =
    let told = g.L.Stream in
    let left = told.left c.args.link.now in
    let read = told.left c.next_request.new.link in
    none_read c.args.answered left (told.left c.refuse.new.output) c.args.buf.now (record { end = c.refuse.result; requests = c.args.answered }) refl
    (taken_refused c.in-Err-Bad.status (Takes (told.written c.next_request.new.link) (told.written c.refuse.new.output))
    (Rose (told.write_faults c.next_request.new.link) (told.write_faults c.refuse.new.output)) c.refuse.result c.refuse.ensures.refuses)
    (subst (λ (now : Option (List ℕ)). TakesUpTo most_held left now c.args.buf.now) (sym c.refuse.ensures.left)
    (subst (λ (f : HttpFault). Leaves left read c.args.buf.now c.next_request.new.buf (Err f)) c.in-Err-Bad.field-0-is c.in-Err-Bad.ensures.leaves (omega (arith, few))))

pub returns-in-Err-Cut-clause-steps : goal.returns-in-Err-Cut-clause-steps
returns-in-Err-Cut-clause-steps g c =
    let told = g.L.Stream in
    let left = told.left c.args.link.now in
    let held = c.args.buf.now in
    let read = c.next_request.new.link in
    was_cut g.D.Desk.turn c.args.answered (c.args.desk.now, c.args.store.now, c.args.clock.now) left (told.left read) held
    (Takes (told.written c.args.link.now) (told.written read)) (Rose (told.read_faults c.args.link.now) (told.read_faults read))
    (Rose (told.write_faults c.args.link.now) (told.write_faults read))
    (subst (λ (f : HttpFault). Tells First left (told.left read) held c.next_request.new.buf (Err f)) c.in-Err-Cut.field-0-is c.in-Err-Cut.ensures.answers)
    (subst (λ (now : Option (List ℕ)). Takes (told.written c.args.link.now) now []) (sym c.next_request.ensures.written) (Takes-none (told.written c.args.link.now)))

pub returns-in-Err-Cut-clause-leaves : goal.returns-in-Err-Cut-clause-leaves
returns-in-Err-Cut-clause-leaves g c few =
    let told = g.L.Stream in
    let left = told.left c.args.link.now in
    let read = told.left c.next_request.new.link in
    none_read c.args.answered left read c.args.buf.now (record { end = Cut; requests = c.args.answered }) refl (λ taken rest less. less)
    (subst (λ (f : HttpFault). Leaves left read c.args.buf.now c.next_request.new.buf (Err f)) c.in-Err-Cut.field-0-is c.in-Err-Cut.ensures.leaves (omega (arith, few)))

pub returns-in-Err-ReadFault-clause-leaves : goal.returns-in-Err-ReadFault-clause-leaves
returns-in-Err-ReadFault-clause-leaves g c few =
    let told = g.L.Stream in
    let left = told.left c.args.link.now in
    let read = told.left c.next_request.new.link in
    none_read c.args.answered left read c.args.buf.now (record { end = ReadFault; requests = c.args.answered }) refl (λ taken rest less. less)
    (subst (λ (f : HttpFault). Leaves left read c.args.buf.now c.next_request.new.buf (Err f)) c.in-Err-ReadFault.field-0-is c.in-Err-ReadFault.ensures.leaves
    (omega (arith, few)))

pub returns-in-Err-clause-leaves : goal.returns-in-Err-clause-leaves
returns-in-Err-clause-leaves g c few =
    let told = g.L.Stream in
    let left = told.left c.args.link.now in
    none_read c.args.answered left (told.left c.tell_memory.new.output) c.args.buf.now (record { end = NoMemory; requests = c.args.answered }) refl
    (λ taken rest less. less)
    (subst (λ (now : Option (List ℕ)). TakesUpTo most_held left now c.args.buf.now) (sym c.tell_memory.ensures.left) (c.in-Err.ensures.leaves (omega (arith, few))))
