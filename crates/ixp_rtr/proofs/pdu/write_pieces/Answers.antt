use Rattle.std.proofs.Common.{take, subst, sym, arith}
use Rattle.std.specs.List.{flat_map}
use Rattle.ixp_rtr.proofs.Joined.{joined_more}
use Rattle.ixp_io.specs.Told.{Takes}
use Rattle.ixp_io.proofs.Streams.{Takes-then}
use Rattle.ixp_rtr.specs.Batches.{gathered}
use Rattle.ixp_rtr.proofs.pdu.write_pieces.Goals as goal

pub loop-piece-preserved : goal.loop-piece-preserved
loop-piece-preserved g c =
    let told = g.L.Stream in
    record {
      takes = subst (Takes (gathered (told.written c.args.link.now) c.args.batch.now) (gathered (told.written c.put.new.link) c.put.new.self))
          (sym (joined_more (λ p. p.now) c.args.pieces.now c.loop-piece.piece-index _ c.loop-piece-test.true))
          (Takes-then (gathered (told.written c.args.link.now) c.args.batch.now) (gathered (told.written c.loop-piece.link) c.loop-piece.batch)
          (gathered (told.written c.put.new.link) c.put.new.self) (flat_map (λ p. p.now) (take c.loop-piece.piece-index c.args.pieces.now))
          _ c.loop-piece.invariant.takes c.in_ok-put.ensures.ok);
      counts = omega (arith, c.put.ensures.counts);
      left = grind arith;
      read_faults = grind arith;
    }
