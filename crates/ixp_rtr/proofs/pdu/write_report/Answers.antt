use Rattle.ixp_rtr.proofs.pdu.write_report.Goals as goal

pub returns-clause-ok : goal.returns-clause-ok
returns-clause-ok g c = rw (c.header_bytes.ensures, c.to_be_bytes.ensures, c.to_be_bytes-2.ensures) at c.write_pieces.ensures.ok
