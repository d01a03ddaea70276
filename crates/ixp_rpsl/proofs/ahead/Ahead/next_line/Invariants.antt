use Rattle.std.proofs.Common.{◌≡◌, ◌≤◌, length}
use Rattle.ixp_rpsl.specs.Lines.{lines_ahead}
use Rattle.ixp_rpsl.proofs.ahead.Ahead.next_line.Given as goal

abbrev pub invariant-lines : goal.invariant-lines
invariant-lines l = record {
  same : lines_ahead l.ahead ≡ lines_ahead l.self;
  shorter : length l.ahead.text.now ≤ length l.self.text.now;
}

abbrev pub decreases-lines : goal.decreases-lines
decreases-lines l = length l.ahead.text.now
