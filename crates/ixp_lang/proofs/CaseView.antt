-- The tree of a `case`, part by part.
use Rattle.std.proofs.Common.{◌≡◌, List, [], ◌∷◌, map, refl, sym, ap, ◌∙◌, Vec}
use Rattle.std.specs.declared.alloc.Global.{Global}
use Rattle.ixp_lang.specs.declared.expr.Expr.{Expr}
use Rattle.ixp_lang.specs.declared.stmt.Stmt.{Stmt, Case}
use Rattle.ixp_lang.specs.declared.stmt.Stmt.TheVariants.{rolls-Case}
use Rattle.ixp_lang.specs.declared.stmt.Stmt.TheOpen.{Stmt-F}
use Rattle.ixp_lang.specs.declared.stmt.Stmt.TheFolds.{fold-roll-Stmt}
use Rattle.ixp_lang.specs.declared.stmt.Label.{Label}
use Rattle.ixp_lang.specs.Trees.{StmtTree, stmts, arms_more, case_of}
use Rattle.ixp_lang.specs.Views.{expr_view, stmt_view, stmts_view, stmt_step, arms_of, arms_view}

arms_by :
    (f : List Label × Vec Stmt Global → List Label × Vec StmtTree Global)
    → ((a : List Label × Vec Stmt Global) → (f a).0 ≡ a.0)
    → ((a : List Label × Vec Stmt Global) → stmts (f a).1.items ≡ stmts (stmts_view a.1.items))
    → (xs : List (List Label × Vec Stmt Global)) → arms_of (map f xs) ≡ arms_view xs
arms_by f p q [] = refl
arms_by f p q (a ∷ xs) =
    ap (λ ls. arms_more ls (stmts (f a).1.items) (arms_of (map f xs))) (p a)
    ∙ ap (λ ss. arms_more a.0 ss (arms_of (map f xs))) (q a)
    ∙ ap (arms_more a.0 (stmts (stmts_view a.1.items))) (arms_by f p q xs)

pub view-Case :
    (on : Expr) (arms : Vec (List Label × Vec Stmt Global) Global) (other : Vec Stmt Global)
    → stmt_view (Case on arms other) ≡ case_of (expr_view on) (arms_view arms.items) (stmts (stmts_view other.items))
view-Case on arms other =
    ap stmt_view (sym (rolls-Case on arms other)) ∙ fold-roll-Stmt StmtTree stmt_step (Stmt-F.Case on arms other)
    ∙ ap (λ x. case_of (expr_view on) x (stmts (stmts_view other.items))) (arms_by _ (λ a. refl) (λ a. refl) arms.items)

pub ruleset case_lemmas = (view-Case)
