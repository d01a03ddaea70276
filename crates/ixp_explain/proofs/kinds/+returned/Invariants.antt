use Rattle.std.proofs.Common.{◌≡◌, drop}
use Rattle.ixp_lang.specs.Trees.{stmts}
use Rattle.ixp_lang.specs.Views.{stmt_view, stmts_view, arms_view}
use Rattle.ixp_explain.specs.Kinds.{returned_in, returned_arms}
use Rattle.ixp_lang.proofs.Weights.{stmt_weight, stmts_weight, arms_weight}
use Rattle.ixp_explain.proofs.kinds.+returned.Given as goal

abbrev pub invariant-returned_in-each : goal.invariant-returned_in-each
invariant-returned_in-each l = returned_in l.sorts l.params (stmts (stmts_view (drop l.stmt-index l.list))) ≡ returned_in l.sorts l.params (stmts (stmts_view l.list))

abbrev pub invariant-returned_arms-each : goal.invariant-returned_arms-each
invariant-returned_arms-each l = returned_arms l.sorts l.params (arms_view (drop l.arm-index l.arms)) ≡ returned_arms l.sorts l.params (arms_view l.arms)

abbrev pub decreases-returned_in : goal.decreases-returned_in
decreases-returned_in l = stmts_weight (stmts (stmts_view l.list.now))

abbrev pub decreases-returned_arms : goal.decreases-returned_arms
decreases-returned_arms l = arms_weight (arms_view l.arms.now)

abbrev pub decreases-returned_by : goal.decreases-returned_by
decreases-returned_by l = stmt_weight (stmt_view l.stmt.now)
