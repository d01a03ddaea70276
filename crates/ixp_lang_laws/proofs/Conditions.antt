-- `if`, from the statements one level deeper.
use Rattle.std.proofs.Common.{◌≡◌, ℕ, suc, Bool, true, false, List, None, codes, refl, sym, subst}
use Rattle.ixp_lang_tokens.specs.declared.token.Kind.{Kind}
use Rattle.ixp_lang_tokens.specs.Grammars.{Took}
use Rattle.ixp_lang.specs.Trees.{ExprTree, StmtTree, StmtTrees, if_then, stmts}
use Rattle.ixp_lang_exprs.specs.declared.types.ValueType.TheVariants.{Bool as Truth}
use Rattle.ixp_lang_exprs.specs.declared.context.Scope.{Scope}
use Rattle.ixp_lang_exprs.specs.Types.{same_type}
use Rattle.ixp_lang_exprs.specs.Names.{Names}
use Rattle.ixp_lang_exprs.specs.Operands.{one_type}
use Rattle.ixp_lang_stmts.specs.Statements.{Returned, Said, said, Statements, deeper, if_form, test_end, is_if_else, else_form, Frame}
use Rattle.ixp_lang_laws.specs.Canonical.{word, expr_tokens}
use Rattle.ixp_lang_laws.specs.CanonicalItems.{stmt_tokens, else_tokens}
use Rattle.ixp_lang_laws.proofs.Basics.{Within, sound, none_unfit, fits_again}
use Rattle.ixp_lang_laws.proofs.Parentheses.{at}
use Rattle.ixp_lang_laws.proofs.Expressions.{expression_again}
use Rattle.ixp_lang_laws.proofs.Statements.{kept, StatementAgain}
use Rattle.ixp_lang_laws.proofs.Branches.{branch_again, else_again}

module _ (names : Names) (scope : Scope) where
  pub test_again : (n s : ℕ) (e : ExprTree) (ts rest : List Kind) → Took (test_end (at names scope s) n) e ts rest
      → (m : ℕ) → Within n m → (s' : ℕ) (others : List Kind) → Took (test_end (at names scope s') m) e (expr_tokens e (word (codes "then") others)) others
  test_again n s e ts rest (value, a, took, (x, b, then_, (fit, (is, same)))) m v s' others =
      let h : (value.misfit ≡ None) × (same_type value.ty Truth ≡ true) = none_unfit value Truth s fit in
      subst (λ y. Took (test_end (at names scope s') m) y (expr_tokens y (word (codes "then") others)) others) (sym is)
      (let whole = (expression_again names scope n s (one_type Truth s) value ts a took h.0 m v).whole in
      (sound value.tree value.ty whole.0, _, whole.1 s' (one_type Truth s') h.1 (word (codes "then") others) (refl, refl), (tt, _, (refl, refl), (fits_again value.tree value.ty Truth whole.0 s' h.1, (refl, refl)))))

  abbrev frame : Frame
  frame = record { names = names; scope = scope }

  module _ (w : Bool) (n m : ℕ) (statement canonical : Statements) (again : StatementAgain names scope w statement canonical) (v : Within n m) where
    pub if_again : (in_arm : Bool) (r : Returned) (one : Said StmtTree) (ts rest : List Kind) → Took (if_form frame (suc n) (deeper n statement) in_arm r) one ts rest
        → (other_arm : Bool) (others : List Kind) → is_if_else other_arm others ≡ false
        → Took (if_form frame (suc m) (deeper m canonical) other_arm (kept w r)) (said (kept w one.returned) one.it) (stmt_tokens one.it others) others
    if_again in_arm r one ts rest (x, a, word_, (test, b, tested, (then_do, c, took, elsed))) other_arm others free =
        by_else (else_again names scope w frame n m statement canonical again in_arm test then_do one c rest elsed)
      where
        Tokens : StmtTree → Type 0
        Tokens it = Took (if_form frame (suc m) (deeper m canonical) other_arm (kept w r)) (said (kept w one.returned) it) (stmt_tokens it others) others

        by_else : (ss : StmtTrees) × (one.it ≡ if_then test (stmts then_do.it) ss)
            × ((other_arm : Bool) (others : List Kind) → is_if_else other_arm others ≡ false
            → Took (else_form frame (deeper m canonical) other_arm test (said (kept w then_do.returned) then_do.it)) (said (kept w one.returned) (if_then test (stmts then_do.it) ss)) (else_tokens ss others) others)
            → Tokens one.it
        by_else (ss, it, spells) =
            subst Tokens (sym it) (
              tt,
              _,
              (refl, refl),
              (
                test,
                _,
                test_again (suc n) _ test a b tested (suc m) v _ _,
                (
                  said (kept w then_do.returned) then_do.it,
                  _,
                  branch_again names scope w frame n m statement canonical again in_arm r then_do b c took other_arm (else_tokens ss others),
                  spells other_arm others free,
                ),
              ),
            )
