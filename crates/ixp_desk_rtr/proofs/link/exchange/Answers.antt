use Rattle.std.proofs.Common.{Ok, ap, ◌∙◌, arith}
use Rattle.ixp_desk_rtr.proofs.Links.{exchanged, read_ok, reset_some, serial_some}
use Rattle.ixp_desk_rtr.proofs.link.exchange.Goals as goal

pub returns-in-Ok-Reset : goal.returns-in-Ok-Reset
returns-in-Ok-Reset g c =
    let reads = c.read_query.ensures.counts in
    let same = c.settle.ensures.reads in
    let writes = c.settle.ensures.writes in
    let still = c.read_query.ensures.write_faults in
    let read = read_ok _ _ c.read_query.result _ (c.in-Ok-Reset.is ∙ ap Ok c.in-Ok-Reset.field-0-is) c.read_query.ensures.answers in
    record {
      steps = exchanged _ c.settle.result _ _ _ _ _ _ _ _ _ _ reset_some read c.settle.ensures.left c.read_query.ensures.written still c.settle.ensures.settles;
      reads = omega (arith, reads, same);
      writes = omega (arith, writes, still);
    }

pub returns-in-Ok-Serial-clause-steps : goal.returns-in-Ok-Serial-clause-steps
returns-in-Ok-Serial-clause-steps g c =
    let read = read_ok _ _ c.read_query.result _ (c.in-Ok-Serial.is ∙ ap Ok c.in-Ok-Serial.field-0-is) c.read_query.ensures.answers in
    exchanged _ c.settle-in-Ok-Serial.result _ _ _ _ _ _ _ _ _ _ (serial_some c.in-Ok-Serial.session c.in-Ok-Serial.serial) read c.settle-in-Ok-Serial.ensures.left c.read_query.ensures.written c.read_query.ensures.write_faults
    c.settle-in-Ok-Serial.ensures.settles
