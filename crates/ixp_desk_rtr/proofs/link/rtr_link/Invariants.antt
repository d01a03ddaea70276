use Rattle.std.proofs.Common.{◌≤◌}
use Rattle.ixp_desk_rtr.proofs.Links.{Going}
use Rattle.ixp_desk_rtr.proofs.link.rtr_link.Given as goal

-- as many queries were answered as there were rounds, and no fault less than before
abbrev pub invariant-loop-answered : goal.invariant-loop-answered
invariant-loop-answered g l =
    let told = g.L.Stream in
    record {
      going : Going (told.left l.fn.link) (told.left l.link) (told.written l.fn.link) (told.written l.link) l._answered;
      reads : told.read_faults l.fn.link ≤ told.read_faults l.link;
      writes : told.write_faults l.fn.link ≤ told.write_faults l.link;
    }
