use Rattle.std.proofs.Common.{◌≡◌, ◌≤◌, ◌-◌, false, length}
use Rattle.ixp_http.specs.Answers.{HoldsOneRead, Together, most_held}
use Rattle.ixp_http.specs.Heads.{chunk, is_open, start_of}
use Rattle.ixp_http.proofs.next.fill_head.Given as goal

abbrev pub invariant-loop-start : goal.invariant-loop-start
invariant-loop-start g l =
    let told = g.L.Stream in
    record {
      together : Together (told.left l.fn.link) (told.left l.link) l.fn.buf l.buf;
      still : is_open (start_of l.fn.buf) ≡ false → told.left l.link ≡ told.left l.fn.link;
      same : is_open (start_of l.fn.buf) ≡ false → l.buf ≡ l.fn.buf;
      bounded : length l.fn.buf ≤ most_held → length l.buf ≤ most_held;
      rest : length l.fn.buf ≤ chunk → HoldsOneRead (start_of l.buf) l.buf;
      counts : told.read_faults l.fn.link ≤ told.read_faults l.link;
      written : told.written l.link ≡ told.written l.fn.link;
      write_faults : told.write_faults l.link ≡ told.write_faults l.fn.link;
    }

abbrev pub decreases-loop-start : goal.decreases-loop-start
decreases-loop-start g l = 16384 - length l.buf
