use Rattle.std.proofs.Common.{◌≤◌, ◌+◌, length}
use Rattle.ixp_eval_trial.specs.Lines.{lines}
use Rattle.ixp_eval_trial.specs.Trials.{Behind}
use Rattle.ixp_eval_trial.proofs.trial.lines_of.Given as goal

-- the lines so far are those of the ROAs
abbrev pub invariant-each : goal.invariant-each
invariant-each l = Behind (lines l.fn.behind) l.fn.first l.roas l.number (lines l.rest) × (l.number + length l.rest ≤ l.fn.first + length l.fn.behind)

abbrev pub decreases-each : goal.decreases-each
decreases-each l = length l.rest
