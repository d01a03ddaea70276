use Rattle.std.proofs.Common.{◌≡◌, ◌++◌}
use Rattle.ixp_io.specs.Told.{TakesPart}
use Rattle.ixp_http.proofs.Writes.{part_first_of, add_err, any_err}
use Rattle.ixp_http.proofs.reply.add.Goals as goal

pub returns-in_err-write_all-in-Err-clause-err : goal.returns-in_err-write_all-in-Err-clause-err
returns-in_err-write_all-in-Err-clause-err g c =
    let told = g.L.Stream in
    let same : c.as_slice.result.now ≡ c.args.held.now.items = cc (c.as_slice.ensures.value, c.in-Err.ensures.err) in
    any_err c.from_residual.result (TakesPart (told.written c.args.link.now) (told.written c.write_all.new.sink) (c.args.held.now.items ++ c.args.text.now))
    (part_first_of (told.written c.args.link.now) (told.written c.write_all.new.sink) c.args.held.now.items c.as_slice.result.now c.args.text.now same
    c.in_err-write_all-in-Err.ensures.err)

pub returns-in_ok-write_all-in-Err-clause-err : goal.returns-in_ok-write_all-in-Err-clause-err
returns-in_ok-write_all-in-Err-clause-err g c =
    let told = g.L.Stream in
    let same : c.as_slice.result.now ≡ c.args.held.now.items = cc (c.as_slice.ensures.value, c.in-Err.ensures.err) in
    add_err (told.written c.args.link.now) (told.written c.write_all.new.sink) (told.written c.write_all-in-Err.new.sink) c.args.held.now.items
    c.as_slice.result.now c.args.text.now c.write_all-in-Err.result same c.in_ok-write_all-in-Err.ensures.ok c.write_all-in-Err.ensures.err
