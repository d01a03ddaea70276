-- Blocks and branches, from the statements one level deeper.
use Rattle.std.proofs.Common.{◌≡◌, ℕ, inl, inr, Bool, true, false, List, [], ◌∷◌, refl, sym, ap, ◌∙◌, subst}
use Rattle.ixp_lang_tokens.specs.declared.token.Kind.{Kind}
use Rattle.ixp_lang_tokens.specs.declared.token.Mark.TheVariants as mark
use Rattle.ixp_lang_tokens.specs.Grammars.{Took}
use Rattle.ixp_lang.specs.Trees.{ExprTree, StmtTree, StmtTrees, if_then, stmts}
use Rattle.ixp_lang_stmts.specs.Statements.{Returned, Said, said, Statements, deeper, block_form, branch_form, else_form, is_if_else, Frame}
use Rattle.ixp_lang_laws.specs.Canonical.{sign}
use Rattle.ixp_lang_laws.specs.CanonicalItems.{stmt_tokens, stmts_tokens, else_tokens}
use Rattle.ixp_lang_exprs.specs.declared.context.Scope.{Scope}
use Rattle.ixp_lang_exprs.specs.Names.{Names}
use Rattle.ixp_lang_laws.proofs.Statements.{kept, StatementAgain, block_again, empty_block}

module _ (names : Names) (scope : Scope) (w : Bool) (frame : Frame) (n m : ℕ) (statement canonical : Statements) (again : StatementAgain names scope w statement canonical) where
  abbrev kept_body : Said (List StmtTree) → Said (List StmtTree)
  kept_body body = said (kept w body.returned) body.it

  pub block_statement : (r : Returned) (one : Said StmtTree) (ts rest : List Kind) → Took (block_form (deeper n statement) r) one ts rest → (others : List Kind)
      → Took (block_form (deeper m canonical) (kept w r)) (said (kept w one.returned) one.it) (stmt_tokens one.it others) others
  block_statement r one ts rest (x, a, open_, (body, b, took, (is, same))) others =
      subst (λ (z : Said StmtTree). Took (block_form (deeper m canonical) (kept w r)) (said (kept w z.returned) z.it) (stmt_tokens z.it others) others) (sym is)
      (tt, _, (refl, refl), (kept_body body, _, block_again names scope w statement canonical again r body a b took others, (refl, refl)))

  abbrev BranchAgain : Returned → Said (List StmtTree) → Type 0
  BranchAgain r body =
      (other_arm : Bool) (others : List Kind) → Took (branch_form frame (deeper m canonical) other_arm (kept w r)) (kept_body body) (sign mark.BlockOpen (stmts_tokens (stmts body.it) (sign mark.BlockClose others))) others

  pub branch_again : (in_arm : Bool) (r : Returned) (body : Said (List StmtTree)) (ts rest : List Kind) → Took (branch_form frame (deeper n statement) in_arm r) body ts rest → BranchAgain r body
  branch_again in_arm r body ts rest (inl (x, a, open_, took)) = λ other_arm others. inl (tt, _, (refl, refl), block_again names scope w statement canonical again r body a rest took others)
  branch_again in_arm r body ts rest (inr (free, (one, a, took, (is, same)))) =
      subst (BranchAgain r) (sym is) (λ other_arm others. inl (
        tt,
        _,
        (refl, refl),
        (
          said (kept w one.returned) (one.it ∷ []),
          sign mark.BlockClose others,
          (
            1,
            (
              said (kept w one.returned) (one.it ∷ []),
              sign mark.BlockClose others,
              inl (said (kept w one.returned) one.it, _, again in_arm r one ts a took false (sign mark.BlockClose others) refl, (refl, refl)),
              inr (refl, refl),
            ),
          ),
          (tt, _, (refl, refl), (refl, refl)),
        ),
      ))

  -- a branch without statements returns nothing
  pub empty_branch : (in_arm : Bool) (r : Returned) (body : Said (List StmtTree)) (ts rest : List Kind) → Took (branch_form frame (deeper n statement) in_arm r) body ts rest → body.it ≡ [] → body.returned ≡ r
  empty_branch in_arm r body ts rest (inl (x, a, open_, took)) none = empty_block names scope w statement canonical again r body a rest took none
  empty_branch in_arm r body ts rest (inr (free, (one, a, took, (is, same)))) none = absurd (let e : one.it ∷ [] ≡ [] = ap (λ z. z.it) (sym is) ∙ none in let f : ⊥ = cc in f)

  else_spells : (test : ExprTree) (then_do else_do : Said (List StmtTree)) (ss : List StmtTree) → else_do.it ≡ ss → (else_do.it ≡ [] → else_do.returned ≡ then_do.returned) → BranchAgain then_do.returned else_do
      → (other_arm : Bool) (others : List Kind) → is_if_else other_arm others ≡ false
      → Took (else_form frame (deeper m canonical) other_arm test (kept_body then_do)) (said (kept w else_do.returned) (if_then test (stmts then_do.it) (stmts ss))) (else_tokens (stmts ss) others) others
  else_spells test then_do else_do [] all empty branch other_arm others free =
      inr (free, (ap (λ r. said (kept w r) (if_then test (stmts then_do.it) (stmts []))) (empty all), refl))
  else_spells test then_do else_do (st ∷ ss) all empty branch true others free =
      inl (
        refl,
        (
          tt,
          _,
          (refl, refl),
          (
            kept_body else_do,
            others,
            subst (λ xs. Took (branch_form frame (deeper m canonical) true (kept w then_do.returned)) (kept_body else_do) (sign mark.BlockOpen (stmts_tokens (stmts xs) (sign mark.BlockClose others))) others) all (branch true others),
            (ap (λ xs. said (kept w else_do.returned) (if_then test (stmts then_do.it) (stmts xs))) (sym all), refl),
          ),
        ),
      )
  else_spells test then_do else_do (st ∷ ss) all empty branch false others free =
      inl (
        refl,
        (
          tt,
          _,
          (refl, refl),
          (
            kept_body else_do,
            others,
            subst (λ xs. Took (branch_form frame (deeper m canonical) false (kept w then_do.returned)) (kept_body else_do) (sign mark.BlockOpen (stmts_tokens (stmts xs) (sign mark.BlockClose others))) others) all (branch false others),
            (ap (λ xs. said (kept w else_do.returned) (if_then test (stmts then_do.it) (stmts xs))) (sym all), refl),
          ),
        ),
      )

  -- what an `if` does else
  pub else_again : (in_arm : Bool) (test : ExprTree) (then_do : Said (List StmtTree)) (one : Said StmtTree) (ts rest : List Kind) → Took (else_form frame (deeper n statement) in_arm test then_do) one ts rest
      → (ss : StmtTrees) × (one.it ≡ if_then test (stmts then_do.it) ss)
      × ((other_arm : Bool) (others : List Kind) → is_if_else other_arm others ≡ false
      → Took (else_form frame (deeper m canonical) other_arm test (kept_body then_do)) (said (kept w one.returned) (if_then test (stmts then_do.it) ss)) (else_tokens ss others) others)
  else_again in_arm test then_do one ts rest (inl (free, (x, a, word, (else_do, b, took, (is, same))))) = (
    stmts else_do.it,
    ap (λ z. z.it) is,
    λ other_arm others free_others.
        subst (λ r. Took (else_form frame (deeper m canonical) other_arm test (kept_body then_do)) (said (kept w r) (if_then test (stmts then_do.it) (stmts else_do.it))) (else_tokens (stmts else_do.it) others) others) (ap (λ z. z.returned) (sym is))
        (else_spells test then_do else_do else_do.it refl (empty_branch in_arm then_do.returned else_do a b took) (branch_again in_arm then_do.returned else_do a b took) other_arm others free_others),
  )
  else_again in_arm test then_do one ts rest (inr (free, (is, same))) =
      (stmts [], ap (λ z. z.it) is, λ other_arm others free_others. inr (free_others, (ap (λ z. said (kept w z.returned) (if_then test (stmts then_do.it) (stmts []))) is, refl)))
