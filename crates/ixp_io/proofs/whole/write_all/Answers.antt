use Rattle.std.proofs.Common.{arith}
use Rattle.std.proofs.lemmas.Grind.{common_steps}
use Rattle.ixp_io.proofs.Streams.{Takes-next}
use Rattle.ixp_io.proofs.whole.write_all.Goals as goal

pub loop-at-preserved : goal.loop-at-preserved
loop-at-preserved g c = record {
  within = grind (arith, common_steps);
  takes = Takes-next _ _ _ _ _ _ c.loop-at.invariant.takes c.in_ok-at.ensures.takes;
  counts = omega (arith, c.write.ensures.counts);
  left = grind arith;
  read_faults = grind arith;
}
