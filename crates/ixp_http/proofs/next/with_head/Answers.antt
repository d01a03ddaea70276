use Rattle.std.proofs.Common.{◌≡◌, take, drop, arith}
use Rattle.std.proofs.lemmas.Grind.{common_steps}
use Rattle.ixp_http.specs.declared.fields.Need.TheVariants.{Body, Refused}
use Rattle.ixp_http.specs.Fields.{need_of}
use Rattle.ixp_http.proofs.Bodies.{head_bodied, head_refused, found_is}
use Rattle.ixp_http.proofs.Held.{body_held}
use Rattle.ixp_http.proofs.next.with_head.Goals as goal

pub returns-in-Body-clause-answers : goal.returns-in-Body-clause-answers
returns-in-Body-clause-answers g c =
    let told = g.L.Stream in
    let need : need_of c.in-Some.head.fields ≡ Body c.in-Body.size = cc (c.need_of.ensures.need, c.as_slice-2.ensures, c.in-Body.is) in
    head_bodied (told.left c.args.link.now) (told.left c.with_body.new.link) c.args.buf.now c.with_body.new.buf c.args.from c.args.len c.in-Body.size
    c.in-Some.head c.with_body.result c.requires.placed.fits
    (found_is c.in_ok-found.found c.in-Some.head (take c.args.len (drop c.args.from c.args.buf.now)) _ c.in-Some.is
    (grind (arith, common_steps, c.as_slice.ensures)) c.in_ok-found.ensures)
    need c.with_body.ensures.answers

pub returns-in-Refused-clause-answers : goal.returns-in-Refused-clause-answers
returns-in-Refused-clause-answers g c =
    let told = g.L.Stream in
    let need : need_of c.in-Some.head.fields ≡ Refused c.in-Refused.status = cc (c.need_of.ensures.need, c.as_slice-2.ensures, c.in-Refused.is) in
    head_refused (told.left c.args.link.now) c.args.buf.now c.args.from c.args.len c.in-Refused.status c.in-Some.head c.requires.placed.fits
    (found_is c.in_ok-found.found c.in-Some.head (take c.args.len (drop c.args.from c.args.buf.now)) _ c.in-Some.is
    (grind (arith, common_steps, c.as_slice.ensures)) c.in_ok-found.ensures)
    need

pub with_body-requires-clause-size : goal.with_body-requires-clause-size
with_body-requires-clause-size g c = c.need_of.ensures.small c.in-Body.size c.in-Body.is

pub returns-in-Body-clause-still : goal.returns-in-Body-clause-still
returns-in-Body-clause-still g c r rest begins =
    let need : need_of c.in-Some.head.fields ≡ Body c.in-Body.size = cc (c.need_of.ensures.need, c.as_slice-2.ensures, c.in-Body.is) in
    c.with_body.ensures.still
    (body_held c.args.buf.now c.args.from c.args.len c.in-Body.size c.in-Some.head r rest
    (found_is c.in_ok-found.found c.in-Some.head (take c.args.len (drop c.args.from c.args.buf.now)) _ c.in-Some.is
    (grind (arith, common_steps, c.as_slice.ensures)) c.in_ok-found.ensures)
    need c.requires.placed.fits begins)
