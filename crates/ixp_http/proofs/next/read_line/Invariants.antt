use Rattle.std.proofs.Common.{◌≡◌, ◌≤◌, ◌<◌, ◌+◌, ◌-◌, length}
use Rattle.ixp_http.specs.Answers.{Together}
use Rattle.ixp_http.specs.Heads.{chunk, head_limit}
use Rattle.ixp_http.proofs.Quiet.{SoFar}
use Rattle.ixp_http.proofs.next.read_line.Given as goal

abbrev pub invariant-loop-buf : goal.invariant-loop-buf
invariant-loop-buf g l =
    let told = g.L.Stream in
    record {
      together : Together (told.left l.fn.link) (told.left l.link) l.fn.buf l.buf;
      quiet : SoFar l.fn.buf l.buf;
      grows : length l.fn.buf ≤ length l.buf;
      bounded : length l.buf < head_limit + chunk;
      counts : told.read_faults l.fn.link ≤ told.read_faults l.link;
      written : told.written l.link ≡ told.written l.fn.link;
      write_faults : told.write_faults l.link ≡ told.write_faults l.fn.link;
    }

abbrev pub decreases-loop-buf : goal.decreases-loop-buf
decreases-loop-buf g l = 16384 - length l.buf
