use Rattle.std.proofs.Common.{length}
use Rattle.ixp_lang.specs.Values.{values_of}
use Rattle.ixp_eval_trial.proofs.Tabling.{AreSoFar}
use Rattle.ixp_eval_trial.proofs.tables.tables_of.Given as goal

abbrev pub invariant-each : goal.invariant-each
invariant-each l = AreSoFar l.fn.roas l.left l.tables (values_of l.groups)

abbrev pub decreases-each : goal.decreases-each
decreases-each l = length l.left
