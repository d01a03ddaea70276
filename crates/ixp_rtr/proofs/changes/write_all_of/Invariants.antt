use Rattle.std.proofs.Common.{◌≡◌, ◌≤◌, take, map}
use Rattle.ixp_io.specs.Told.{Takes}
use Rattle.ixp_rtr.specs.Batches.{gathered}
use Rattle.ixp_rtr.specs.Pdus.{pdus_bytes}
use Rattle.ixp_rtr.specs.Changes.{announcement}
use Rattle.ixp_rtr.proofs.changes.write_all_of.Given as goal

abbrev pub invariant-loop-roa : goal.invariant-loop-roa
invariant-loop-roa g l =
    let told = g.L.Stream in
    record {
      takes : Takes (gathered (told.written l.fn.link) l.fn.batch) (gathered (told.written l.link) l.batch) (pdus_bytes (map announcement (take l.roa-index l.set)));
      counts : told.write_faults l.fn.link ≤ told.write_faults l.link;
      left : told.left l.link ≡ told.left l.fn.link;
      read_faults : told.read_faults l.link ≡ told.read_faults l.fn.link;
    }
