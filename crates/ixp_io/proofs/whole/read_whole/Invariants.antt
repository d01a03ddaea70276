use Rattle.std.proofs.Common.{◌≡◌, ◌≤◌, ◌-◌, ◌+◌, vec_len}
use Rattle.ixp_io.specs.Told.{Moves}
use Rattle.ixp_io.proofs.whole.read_whole.Given as goal

abbrev pub invariant-loop-asked : goal.invariant-loop-asked
invariant-loop-asked g l =
    let told = g.S.Stream in
    record {
      within : vec_len l.bytes ≤ l.limit;
      moves : Moves (told.left l.fn.source) (told.left l.source) l.bytes.items;
      counts : told.read_faults l.fn.source ≤ told.read_faults l.source;
      written : told.written l.source ≡ told.written l.fn.source;
      write_faults : told.write_faults l.source ≡ told.write_faults l.fn.source;
    }

abbrev pub decreases-loop-asked : goal.decreases-loop-asked
decreases-loop-asked g l = l.limit + 1 - vec_len l.bytes
