-- How much there is in statements: what goes down them ends by it.
use Rattle.std.proofs.Common.{ℕ, suc, zero, ◌+◌, ◌<◌, List, [], ◌∷◌, length, get_or, Vec, arith}
use Rattle.std.specs.declared.alloc.Global.{Global}
use Rattle.ixp_lang.specs.declared.stmt.Stmt.{Stmt}
use Rattle.ixp_lang.specs.declared.stmt.Label.{Label}
use Rattle.ixp_lang.specs.Trees.{StmtTree, block, if_then, case_of, StmtTrees, stmts_end, stmts_more, ArmTrees, arms_end, arms_more, stmts}
use Rattle.ixp_lang.specs.Views.{stmt_view, stmts_view, arms_view}

abbrev mutual
  pub stmt_weight : StmtTree → ℕ
  stmt_weight (block ss) = stmts_weight ss + 1
  stmt_weight (if_then e ss ts) = stmts_weight ss + stmts_weight ts + 1
  stmt_weight (case_of e arms ts) = arms_weight arms + stmts_weight ts + 2
  stmt_weight _ = 1

  pub stmts_weight : StmtTrees → ℕ
  stmts_weight stmts_end = 0
  stmts_weight (stmts_more s ss) = stmt_weight s + stmts_weight ss + 1

  pub arms_weight : ArmTrees → ℕ
  arms_weight arms_end = 0
  arms_weight (arms_more ls ss arms) = stmts_weight ss + arms_weight arms + 1

pub stmt_below : (xs : List Stmt) (i : ℕ) (d : Stmt) → i < length xs → stmt_weight (stmt_view (get_or xs i d)) < stmts_weight (stmts (stmts_view xs))
stmt_below [] i d h = omega arith
stmt_below (x ∷ xs) zero d h = omega arith
stmt_below (x ∷ xs) (suc i) d h = omega (arith, stmt_below xs i d (omega arith))

pub arm_below :
    (xs : List (List Label × Vec Stmt Global)) (i : ℕ) (d : List Label × Vec Stmt Global) → i < length xs
    → stmts_weight (stmts (stmts_view (get_or xs i d).1.items)) < arms_weight (arms_view xs)
arm_below [] i d h = omega arith
arm_below (x ∷ xs) zero d h = omega arith
arm_below (x ∷ xs) (suc i) d h = omega (arith, arm_below xs i d (omega arith))
