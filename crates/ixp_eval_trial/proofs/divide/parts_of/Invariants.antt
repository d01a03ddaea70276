use Rattle.std.proofs.Common.{length}
use Rattle.ixp_eval_trial.proofs.Parting.{Passed}
use Rattle.ixp_eval_trial.proofs.divide.parts_of.Given as goal

abbrev pub invariant-each : goal.invariant-each
invariant-each l = Passed l.fn.input l.rest l.before

abbrev pub decreases-each : goal.decreases-each
decreases-each l = length l.rest
