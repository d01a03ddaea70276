use Rattle.ixp_rtr.proofs.Joined.{between_written}
use Rattle.ixp_rtr.specs.Batches.{gathered}
use Rattle.ixp_rtr.specs.Changes.{changes}
use Rattle.ixp_rtr.proofs.answer.write_from.Goals as goal

pub returns-clause-ok : goal.returns-clause-ok
returns-clause-ok g c =
    let told = g.L.Stream in
    between_written c.write_pdu-2.result (gathered (told.written c.args.link.now) c.args.batch.now)
    (gathered (told.written c.write_pdu.new.link) c.write_pdu.new.batch) (gathered (told.written c.write_changes.new.link) c.write_changes.new.batch)
    (gathered (told.written c.write_pdu-2.new.link) c.write_pdu-2.new.batch)
    c.args.session c.args.serial (changes c.args.from.now c.args.to.now)
    c.in_ok-write_pdu.ensures.ok (rw (c.as_slice.ensures.items, c.as_slice-2.ensures.items) at c.in_ok-write_changes.ensures.ok) c.write_pdu-2.ensures.ok
