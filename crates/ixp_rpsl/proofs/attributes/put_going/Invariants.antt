use Rattle.std.proofs.Common.{◌≡◌, ◌≤◌, ◌++◌, length}
use Rattle.ixp_rpsl.specs.Lines.{lines_ahead}
use Rattle.ixp_rpsl.specs.Attributes.{going, past_value}
use Rattle.ixp_rpsl.proofs.attributes.put_going.Given as goal

abbrev pub invariant-lines : goal.invariant-lines
invariant-lines l = record {
  text : l.value.items ++ going (lines_ahead l.rest) ≡ l.fn.value.items ++ going (lines_ahead l.fn.ahead);
  past : past_value (lines_ahead l.rest) ≡ past_value (lines_ahead l.fn.ahead);
  shorter : length l.rest.text.now ≤ length l.fn.ahead.text.now;
}

abbrev pub decreases-lines : goal.decreases-lines
decreases-lines l = length l.rest.text.now
