-- Whether there is a statement.
use Rattle.std.proofs.Common.{◌≡◌, ℕ, suc, false, List, [], ◌∷◌, length, refl, sym, ◌==◌, arith}
use Rattle.std.proofs.lemmas.Bool.Decides.{nat_tests}
use Rattle.ixp_lang.specs.declared.stmt.Stmt.{Stmt}
use Rattle.ixp_lang.specs.Trees.{stmts}
use Rattle.ixp_lang.specs.Views.{stmts_view}
use Rattle.ixp_print.specs.Texts.{no_stmts}

not_zero : (n : ℕ) → (suc n == 0) ≡ false
not_zero n = grind (arith, nat_tests)

pub no_stmts_is_empty : (xs : List Stmt) → no_stmts (stmts (stmts_view xs)) ≡ (length xs == 0)
no_stmts_is_empty [] = refl
no_stmts_is_empty (x ∷ xs) = sym (not_zero (length xs))
