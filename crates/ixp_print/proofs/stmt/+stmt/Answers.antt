use Rattle.std.proofs.Common.{rules, ◌≡◌, ◌++◌, arith, ap, ◌∙◌, List, Vec, subst, sym, OnOk, append_assoc}
use Rattle.std.proofs.lemmas.Grind.{common_steps}
use Rattle.std.specs.declared.alloc.Global.{Global}
use Rattle.ixp_lang.specs.declared.stmt.Label.{Label}
use Rattle.ixp_lang.specs.declared.stmt.Stmt.{Stmt}
use Rattle.ixp_lang.specs.Trees.{StmtTree, stmts, case_of}
use Rattle.ixp_lang.specs.Views.{expr_view, stmt_view, stmts_view, arms_view}
use Rattle.ixp_lang.proofs.CaseView.{view-Case}
use Rattle.ixp_print.specs.Texts.{stmt_text}
use Rattle.ixp_lang.proofs.Weights.{stmt_weight, stmts_weight, stmt_below, arm_below}
use Rattle.ixp_print.proofs.stmt.+stmt.Goals as goal

pub put_stmts-put_stmt-requires : goal.put_stmts-put_stmt-requires
put_stmts-put_stmt-requires t c =
    let below = stmt_below c.args.list.now c.each.stmt-index c.stmt-item.result c.each-test.true in
    let same = ap (λ (s : Stmt). stmt_weight (stmt_view s)) c.stmt-item.is in
    (omega (arith, below, same, c.decreases), tt)

pub put_arms-put_stmts-requires : goal.put_arms-put_stmts-requires
put_arms-put_stmts-requires t c =
    let below = arm_below c.args.arms.now c.each.arm-index c.arm-item.result c.each-test.true in
    let same = ap (λ (a : List Label × Vec Stmt Global). stmts_weight (stmts (stmts_view a.1.items))) c.arm-item.is in
    (omega (arith, below, same, c.decreases, ap (λ (ss : List Stmt). stmts_weight (stmts (stmts_view ss))) c.deref.ensures.value), tt)

pub put_stmt-returns-in_ok-put_arms-in-Case : goal.put_stmt-returns-in_ok-put_arms-in-Case
put_stmt-returns-in_ok-put_arms-in-Case t c =
    let view : stmt_view c.args.stmt.now ≡ case_of (expr_view c.in-Case.on) (arms_view c.in-Case.arms.items) (stmts (stmts_view c.in-Case.other.items)) =
    ap stmt_view c.in-Case.is ∙ view-Case c.in-Case.on c.in-Case.arms c.in-Case.other in
    subst (λ (x : StmtTree). OnOk c.put_line-in-Case.result (c.put_line-in-Case.new.out.items ≡ c.args.out.now.items ++ stmt_text c.args.indent.now x)) (sym view)
    (first_of (search rules, grind (arith, common_steps), grind (arith, common_steps, append_assoc)))
