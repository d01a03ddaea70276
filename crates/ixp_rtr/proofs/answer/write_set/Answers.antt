use Rattle.std.proofs.Common.{map}
use Rattle.ixp_rtr.proofs.Joined.{between_written}
use Rattle.ixp_rtr.specs.Batches.{gathered}
use Rattle.ixp_rtr.specs.Changes.{announcement}
use Rattle.ixp_rtr.proofs.answer.write_set.Goals as goal

pub returns-clause-ok : goal.returns-clause-ok
returns-clause-ok g c =
    let told = g.L.Stream in
    between_written c.write_pdu-2.result (gathered (told.written c.args.link.now) c.args.batch.now)
    (gathered (told.written c.write_pdu.new.link) c.write_pdu.new.batch) (gathered (told.written c.write_all_of.new.link) c.write_all_of.new.batch)
    (gathered (told.written c.write_pdu-2.new.link) c.write_pdu-2.new.batch)
    c.args.session c.args.serial (map announcement c.args.set.now)
    c.in_ok-write_pdu.ensures.ok (rw c.as_slice.ensures.items at c.in_ok-write_all_of.ensures.ok) c.write_pdu-2.ensures.ok
