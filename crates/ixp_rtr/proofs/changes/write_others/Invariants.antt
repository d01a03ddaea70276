use Rattle.std.proofs.Common.{◌≡◌, ◌≤◌, take, drop, map}
use Rattle.std.specs.List.{AllByRecursion}
use Rattle.ixp_num_tables.specs.Tables.{Ascends}
use Rattle.ixp_num_sorted.specs.Keys.{roa_key}
use Rattle.ixp_io.specs.Told.{Takes}
use Rattle.ixp_rtr.specs.Batches.{gathered}
use Rattle.ixp_rtr.specs.declared.pdu.Pdu.TheVariants.{Prefix}
use Rattle.ixp_rtr.specs.Pdus.{pdus_bytes}
use Rattle.ixp_rtr.specs.Changes.{is_among, others}
use Rattle.ixp_rtr.proofs.changes.write_others.Given as goal

abbrev pub invariant-loop-roa : goal.invariant-loop-roa
invariant-loop-roa g l =
    let told = g.L.Stream in
    record {
      takes : Takes (gathered (told.written l.fn.link) l.fn.batch) (gathered (told.written l.link) l.batch) (pdus_bytes (map (Prefix l.announces) (others (take l.roa-index l.set) l.than)));
      set : Ascends roa_key (drop l.roa-index l.set);
      rest : Ascends roa_key l.left;
      same : AllByRecursion (λ r. is_among l.than r ≡ is_among l.left r) (drop l.roa-index l.set);
      counts : told.write_faults l.fn.link ≤ told.write_faults l.link;
      left : told.left l.link ≡ told.left l.fn.link;
      read_faults : told.read_faults l.link ≡ told.read_faults l.fn.link;
    }
