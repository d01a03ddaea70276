use Rattle.std.proofs.Common.{◌≡◌, ◌+◌, ◌++◌, drop}
use Rattle.ixp_lang.specs.Trees.{stmts}
use Rattle.ixp_lang.specs.Views.{stmt_view, stmts_view, arms_view}
use Rattle.ixp_print.specs.Texts.{stmts_text, arms_text}
use Rattle.ixp_lang.proofs.Weights.{stmt_weight, stmts_weight, arms_weight}
use Rattle.ixp_print.proofs.stmt.+stmt.Given as goal

abbrev pub invariant-put_stmts-each : goal.invariant-put_stmts-each
invariant-put_stmts-each l = l.out.items ++ stmts_text l.indent (stmts (stmts_view (drop l.stmt-index l.list))) ≡ l.fn.out.items ++ stmts_text l.indent (stmts (stmts_view l.list))

abbrev pub invariant-put_arms-each : goal.invariant-put_arms-each
invariant-put_arms-each l = l.out.items ++ arms_text l.indent (arms_view (drop l.arm-index l.arms)) ≡ l.fn.out.items ++ arms_text l.indent (arms_view l.arms)

abbrev pub decreases-put_stmts : goal.decreases-put_stmts
decreases-put_stmts l = stmts_weight (stmts (stmts_view l.list.now))

abbrev pub decreases-put_arms : goal.decreases-put_arms
decreases-put_arms l = arms_weight (arms_view l.arms.now) + stmts_weight (stmts (stmts_view l.other.now)) + 1

abbrev pub decreases-put_stmt : goal.decreases-put_stmt
decreases-put_stmt l = stmt_weight (stmt_view l.stmt.now)
