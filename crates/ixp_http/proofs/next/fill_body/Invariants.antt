use Rattle.std.proofs.Common.{◌≡◌, ◌≤◌, ◌+◌, ◌-◌, length}
use Rattle.ixp_http.specs.Answers.{Together, most_held}
use Rattle.ixp_http.specs.Heads.{chunk}
use Rattle.ixp_http.proofs.next.fill_body.Given as goal

abbrev pub invariant-loop-buf : goal.invariant-loop-buf
invariant-loop-buf g l =
    let told = g.L.Stream in
    record {
      together : Together (told.left l.fn.link) (told.left l.link) l.fn.buf l.buf;
      grows : length l.fn.buf ≤ length l.buf;
      rest : length l.fn.buf ≤ l.size + chunk → length l.buf ≤ l.size + chunk;
      still : l.size ≤ length l.fn.buf → told.left l.link ≡ told.left l.fn.link;
      bounded : l.size + chunk ≤ most_held → length l.fn.buf ≤ most_held → length l.buf ≤ most_held;
      counts : told.read_faults l.fn.link ≤ told.read_faults l.link;
      written : told.written l.link ≡ told.written l.fn.link;
      write_faults : told.write_faults l.link ≡ told.write_faults l.fn.link;
    }

abbrev pub decreases-loop-buf : goal.decreases-loop-buf
decreases-loop-buf g l = l.size - length l.buf
