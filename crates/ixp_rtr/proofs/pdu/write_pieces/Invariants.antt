use Rattle.std.proofs.Common.{◌≡◌, ◌≤◌, take}
use Rattle.std.specs.List.{flat_map}
use Rattle.ixp_io.specs.Told.{Takes}
use Rattle.ixp_rtr.specs.Batches.{gathered}
use Rattle.ixp_rtr.proofs.pdu.write_pieces.Given as goal

abbrev pub invariant-loop-piece : goal.invariant-loop-piece
invariant-loop-piece g l =
    let told = g.L.Stream in
    record {
      takes : Takes (gathered (told.written l.fn.link) l.fn.batch) (gathered (told.written l.link) l.batch) (flat_map (λ p. p.now) (take l.piece-index l.pieces));
      counts : told.write_faults l.fn.link ≤ told.write_faults l.link;
      left : told.left l.link ≡ told.left l.fn.link;
      read_faults : told.read_faults l.link ≡ told.read_faults l.fn.link;
    }
