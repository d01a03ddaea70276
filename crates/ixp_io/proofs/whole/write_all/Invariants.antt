use Rattle.std.proofs.Common.{◌≡◌, ◌≤◌, ◌-◌, length, take}
use Rattle.ixp_io.specs.Told.{Takes}
use Rattle.ixp_io.proofs.whole.write_all.Given as goal

abbrev pub invariant-loop-at : goal.invariant-loop-at
invariant-loop-at g l =
    let told = g.K.Stream in
    record {
      within : l.at ≤ length l.bytes;
      takes : Takes (told.written l.fn.sink) (told.written l.sink) (take l.at l.bytes);
      counts : told.write_faults l.fn.sink ≤ told.write_faults l.sink;
      left : told.left l.sink ≡ told.left l.fn.sink;
      read_faults : told.read_faults l.sink ≡ told.read_faults l.fn.sink;
    }

abbrev pub decreases-loop-at : goal.decreases-loop-at
decreases-loop-at g l = length l.initial.bytes - l.at
