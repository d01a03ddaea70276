use Rattle.std.proofs.Common.{◌≡◌, ◌≤◌, ◌++◌, length}
use Rattle.ixp_rpsl.specs.Lines.{lines_ahead}
use Rattle.ixp_rpsl.specs.Attributes.{attributes, bad_line, earlier, past_object}
use Rattle.ixp_rpsl.proofs.gathered.Gathered.gather.Given as goal

abbrev pub invariant-lines : goal.invariant-lines
invariant-lines l = record {
  found : l.self.found ++ attributes l.fn.word (lines_ahead l.rest) ≡ l.fn.self.found ++ attributes l.fn.word (lines_ahead l.fn.ahead);
  fault : earlier l.self.fault (bad_line (lines_ahead l.rest)) ≡ earlier l.fn.self.fault (bad_line (lines_ahead l.fn.ahead));
  past : past_object (lines_ahead l.rest) ≡ past_object (lines_ahead l.fn.ahead);
  shorter : length l.rest.text.now ≤ length l.fn.ahead.text.now;
}

abbrev pub decreases-lines : goal.decreases-lines
decreases-lines l = length l.rest.text.now
