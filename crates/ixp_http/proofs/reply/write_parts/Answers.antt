use Rattle.std.proofs.Common.{◌+◌, drop, get_or, map, arith}
use Rattle.std.proofs.lemmas.List.{drop_more}
use Rattle.ixp_io.specs.Told.{TakesPart}
use Rattle.ixp_http.specs.declared.reply.Part.TheVariants.{Version}
use Rattle.ixp_http.specs.Replies.{concat, text_of}
use Rattle.ixp_http.proofs.Writes.{owes_fault, owes_next, last_err, any_err}
use Rattle.ixp_http.proofs.reply.write_parts.Goals as goal

pub returns-in_err-add_part-clause-err : goal.returns-in_err-add_part-clause-err
returns-in_err-add_part-clause-err g c =
    let told = g.L.Stream in
    any_err c.from_residual.result
    (TakesPart (told.written c.args.link.now) (told.written c.add_part.new.link) (concat (map (text_of c.args.reply.now) c.args.parts.now)))
    (owes_fault (text_of c.args.reply.now) (drop c.loop-part.part-index c.args.parts.now) (get_or c.args.parts.now c.loop-part.part-index Version)
    (drop (c.loop-part.part-index + 1) c.args.parts.now)
    (told.written c.args.link.now) (told.written c.loop-part.link) (told.written c.add_part.new.link) c.loop-part.held.items
    (concat (map (text_of c.args.reply.now) c.args.parts.now))
    (drop_more c.args.parts.now c.loop-part.part-index Version c.loop-part-test.true)
    c.loop-part.invariant.owes c.in_err-add_part.ensures.err)

pub loop-part-preserved : goal.loop-part-preserved
loop-part-preserved g c =
    let told = g.L.Stream in
    record {
      owes = owes_next (text_of c.args.reply.now) (drop c.loop-part.part-index c.args.parts.now) (get_or c.args.parts.now c.loop-part.part-index Version)
          (drop (c.loop-part.part-index + 1) c.args.parts.now)
          (told.written c.args.link.now) (told.written c.loop-part.link) (told.written c.add_part.new.link) c.loop-part.held.items c.add_part.new.held.items
          (concat (map (text_of c.args.reply.now) c.args.parts.now))
          (drop_more c.args.parts.now c.loop-part.part-index Version c.loop-part-test.true)
          c.loop-part.invariant.owes c.in_ok-add_part.ensures.ok;
      counts = omega (arith, c.add_part.ensures.counts);
      left = grind arith;
      read_faults = grind arith;
    }

pub returns-clause-err : goal.returns-clause-err
returns-clause-err g c =
    let told = g.L.Stream in
    last_err (told.written c.args.link.now) (told.written c.loop-part.link) (told.written c.write_all.new.sink) c.loop-part.held.items c.as_slice.result.now
    (concat (map (text_of c.args.reply.now) (drop c.loop-part.part-index c.args.parts.now))) (concat (map (text_of c.args.reply.now) c.args.parts.now))
    c.write_all.result c.as_slice.ensures.value c.loop-part.invariant.owes c.write_all.ensures.err
