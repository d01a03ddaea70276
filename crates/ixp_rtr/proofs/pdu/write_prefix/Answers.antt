use Rattle.std.proofs.Common.{OnOk, subst, sym}
use Rattle.ixp_io.specs.Told.{Takes}
use Rattle.ixp_rtr.specs.Batches.{gathered}
use Rattle.ixp_rtr.specs.Pdus.{prefix_bytes}
use Rattle.ixp_rtr.proofs.pdu.write_prefix.Goals as goal

pub returns-in-V6-clause-ok : goal.returns-in-V6-clause-ok
returns-in-V6-clause-ok g c =
    let told = g.L.Stream in
    subst (λ f. OnOk c.write_pieces-in-V6.result (Takes (gathered (told.written c.args.link.now) c.args.batch.now) (gathered (told.written c.write_pieces-in-V6.new.link) c.write_pieces-in-V6.new.batch) (prefix_bytes f c.args.announces c.args.roa.now))) (sym c.in-V6.is)
    (rw (c.header_bytes-in-V6.ensures, c.to_be_bytes-value-in-V6.ensures, c.to_be_bytes-asn.ensures, c.from.ensures) at c.write_pieces-in-V6.ensures.ok)
