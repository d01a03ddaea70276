use Rattle.std.proofs.Common.{◌≡◌, ◌++◌, ℕ, List, length}
use Rattle.ixp_lang.specs.Values.{values_of}
use Rattle.ixp_eval_trial.specs.Tables.{rows_named}
use Rattle.ixp_eval_trial.proofs.tables.grouped.Given as goal

abbrev pub invariant-each : goal.invariant-each
invariant-each l = (n : List ℕ) → values_of l.groups n ++ rows_named n l.left ≡ rows_named n l.fn.roas

abbrev pub decreases-each : goal.decreases-each
decreases-each l = length l.left
