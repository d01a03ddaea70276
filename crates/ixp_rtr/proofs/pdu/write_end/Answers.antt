use Rattle.ixp_rtr.proofs.pdu.write_end.Goals as goal

pub returns-clause-ok : goal.returns-clause-ok
returns-clause-ok g c = rw (c.header_bytes.ensures, c.to_be_bytes.ensures) at c.write_pieces.ensures.ok
