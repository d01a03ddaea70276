use Rattle.std.proofs.Common.{arith, ap, List, Vec}
use Rattle.std.specs.declared.alloc.Global.{Global}
use Rattle.ixp_lang.specs.declared.stmt.Label.{Label}
use Rattle.ixp_lang.specs.declared.stmt.Stmt.{Stmt}
use Rattle.ixp_lang.specs.Trees.{stmts}
use Rattle.ixp_lang.specs.Views.{stmt_view, stmts_view}
use Rattle.ixp_lang.proofs.Weights.{stmt_weight, stmts_weight, stmt_below, arm_below}
use Rattle.ixp_explain.proofs.kinds.+returned.Goals as goal

pub returned_in-returned_by-requires : goal.returned_in-returned_by-requires
returned_in-returned_by-requires t c =
    let below = stmt_below c.args.list.now c.each.stmt-index c.stmt-item.result c.each-test.true in
    let same = ap (λ (s : Stmt). stmt_weight (stmt_view s)) c.stmt-item.is in
    (omega (arith, below, same, c.decreases), tt)

pub returned_arms-returned_in-requires : goal.returned_arms-returned_in-requires
returned_arms-returned_in-requires t c =
    let below = arm_below c.args.arms.now c.each.arm-index c.arm-item.result c.each-test.true in
    let same = ap (λ (a : List Label × Vec Stmt Global). stmts_weight (stmts (stmts_view a.1.items))) c.arm-item.is in
    (omega (arith, below, same, c.decreases, ap (λ (ss : List Stmt). stmts_weight (stmts (stmts_view ss))) c.deref.ensures.value), tt)
