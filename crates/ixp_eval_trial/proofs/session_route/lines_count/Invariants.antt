use Rattle.std.proofs.Common.{◌≡◌, ◌≤◌, ◌+◌, length}
use Rattle.ixp_eval_trial.specs.Lines.{lines}
use Rattle.ixp_eval_trial.proofs.session_route.lines_count.Given as goal

abbrev pub invariant-each : goal.invariant-each
invariant-each l = (l.count + length (lines l.rest) ≡ length (lines l.fn.text)) × (l.count + length l.rest ≤ length l.fn.text)

abbrev pub decreases-each : goal.decreases-each
decreases-each l = length l.rest
