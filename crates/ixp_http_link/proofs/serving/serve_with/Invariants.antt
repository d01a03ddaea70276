use Rattle.std.proofs.Common.{◌<◌, ◌≤◌, ◌-◌, length}
use Rattle.ixp_http.specs.Heads.{chunk}
use Rattle.ixp_http_link.proofs.Leftovers.{SoFar}
use Rattle.ixp_http_link.proofs.Runs.{Run}
use Rattle.ixp_http_link.proofs.serving.serve_with.Given as goal

abbrev pub invariant-loop-served : goal.invariant-loop-served
invariant-loop-served g l =
    let told = g.L.Stream in
    record {
      run : Run g.D.Desk.turn (l.fn.desk, l.fn.store, l.fn.clock) (l.desk, l.store, l.clock) (told.left l.fn.link) (told.left l.link) l.buf (told.written l.fn.link) (told.written l.link) l.answered;
      read : SoFar l.answered (told.left l.fn.link) (told.left l.link) l.buf;
      held : length l.buf ≤ chunk;
      few : l.answered < 100000;
      reads : told.read_faults l.fn.link ≤ told.read_faults l.link;
      writes : told.write_faults l.fn.link ≤ told.write_faults l.link;
      fits : g.D.Desk.fits l.desk l.store;
    }

abbrev pub decreases-loop-served : goal.decreases-loop-served
decreases-loop-served g l = 100000 - l.answered
