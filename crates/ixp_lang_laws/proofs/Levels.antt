-- Statements of each level are spelt by their canonical tokens.
use Rattle.std.proofs.Common.{ℕ, zero, suc, inl, inr, Bool, List, refl, sym, subst}
use Rattle.ixp_lang_tokens.specs.declared.token.Kind.{Kind}
use Rattle.ixp_lang_tokens.specs.declared.token.Mark.TheVariants as mark
use Rattle.ixp_lang_tokens.specs.Grammars.{Took}
use Rattle.ixp_lang.specs.Trees.{StmtTree, stmts}
use Rattle.ixp_lang_exprs.specs.declared.context.Scope.{Scope}
use Rattle.ixp_lang_exprs.specs.Names.{Names}
use Rattle.ixp_lang_stmts.specs.Statements.{Returned, Said, said, no_branch, plain_form, statement_with, statement_form, body_form, Frame}
use Rattle.ixp_lang_laws.specs.Canonical.{sign}
use Rattle.ixp_lang_laws.specs.CanonicalItems.{stmt_tokens, stmts_tokens}
use Rattle.ixp_lang_laws.proofs.Basics.{Within, within_same, never_took}
use Rattle.ixp_lang_laws.proofs.PlainStatements.{change_again}
use Rattle.ixp_lang_laws.proofs.Statements.{kept, StatementAgain, return_again, block_again}
use Rattle.ixp_lang_laws.proofs.Branches.{block_statement}
use Rattle.ixp_lang_laws.proofs.Conditions.{if_again}
use Rattle.ixp_lang_laws.proofs.Arms.{case_again}

module _ (names : Names) (scope : Scope) (w : Bool) where
  abbrev frame : Frame
  frame = record { names = names; scope = scope }

  -- no branch stands where no level is left
  no_branch_took : {A : Type 0} (v : A) (ts rest : List Kind) → Took (no_branch {A = A} frame) v ts rest → ⊥
  no_branch_took v ts rest (free, inl (name, a, token, (fault, never))) = never_took v a rest never
  no_branch_took v ts rest (free, inr (word, a, token, (fault, never))) = never_took v a rest never

  plain_again : (n : ℕ) (r : Returned) (one : Said StmtTree) (ts rest : List Kind) → Took (plain_form frame n r) one ts rest → (m : ℕ) → Within n m → (others : List Kind)
      → Took (plain_form frame m (kept w r)) (said (kept w one.returned) one.it) (stmt_tokens one.it others) others
  plain_again n r one ts rest (inl took) m v others = inl (return_again names scope w n _ r one ts rest took m v _ others)
  plain_again n r one ts rest (inr (change, a, took, (is, same))) m v others =
      subst (λ (z : Said StmtTree). Took (plain_form frame m (kept w r)) (said (kept w z.returned) z.it) (stmt_tokens z.it others) others) (sym is)
      (inr (change, others, change_again names scope n _ change ts a took m v _ others, (refl, refl)))

  plain_level : (m : ℕ) (in_arm : Bool) (r : Returned) (one : Said StmtTree) (ts rest : List Kind) → Took (plain_form frame m r) one ts rest → Took (statement_form frame m in_arm r) one ts rest
  unfolding statement_with
  plain_level zero in_arm r one ts rest took = inr (inr (inr took))
  plain_level (suc m) in_arm r one ts rest took = inr (inr (inr took))

  LevelAgain : ℕ → Type 0
  LevelAgain n = (m : ℕ) → Within n m → StatementAgain names scope w (statement_form frame n) (statement_form frame m)

  lowest_again : (in_arm : Bool) (r : Returned) (one : Said StmtTree) (ts rest : List Kind) → Took (statement_form frame zero in_arm r) one ts rest → (m : ℕ) (other_arm : Bool) (others : List Kind)
      → Took (statement_form frame m other_arm (kept w r)) (said (kept w one.returned) one.it) (stmt_tokens one.it others) others
  unfolding statement_with
  lowest_again in_arm r one ts rest (inl (free, never)) m other_arm others = absurd (never_took one ts rest never)
  lowest_again in_arm r one ts rest (inr (inl (x, a, word, (test, b, tested, (then_do, c, took, elsed))))) m other_arm others = absurd (no_branch_took then_do b c took)
  lowest_again in_arm r one ts rest (inr (inr (inl (free, never)))) m other_arm others = absurd (never_took one ts rest never)
  lowest_again in_arm r one ts rest (inr (inr (inr took))) m other_arm others = plain_level m other_arm (kept w r) _ _ others (plain_again zero r one ts rest took m tt others)

  lowest_level : (m : ℕ) → StatementAgain names scope w (statement_form frame zero) (statement_form frame m)
  lowest_level m in_arm r one ts rest took other_arm others free = lowest_again in_arm r one ts rest took m other_arm others

  higher_again : (n m : ℕ) → Within n m → StatementAgain names scope w (statement_form frame n) (statement_form frame m) → StatementAgain names scope w (statement_form frame (suc n)) (statement_form frame (suc m))
  unfolding statement_with
  higher_again n m v again in_arm r one ts rest (inl took) other_arm others free =
      inl (block_statement names scope w frame n m (statement_form frame n) (statement_form frame m) again r one ts rest took others)
  higher_again n m v again in_arm r one ts rest (inr (inl took)) other_arm others free =
      inr (inl (if_again names scope w n m (statement_form frame n) (statement_form frame m) again v in_arm r one ts rest took other_arm others free))
  higher_again n m v again in_arm r one ts rest (inr (inr (inl took))) other_arm others free =
      inr (inr (inl (case_again names scope w (statement_form frame n) (statement_form frame m) again n m v r one ts rest took others)))
  higher_again n m v again in_arm r one ts rest (inr (inr (inr took))) other_arm others free =
      inr (inr (inr (plain_again (suc n) r one ts rest took (suc m) v others)))

  -- each statement
  statement_again : (n : ℕ) → LevelAgain n
  unfolding LevelAgain
  statement_again zero m v = lowest_level m
  statement_again (suc n) zero v = absurd v
  statement_again (suc n) (suc m) v = higher_again n m v (statement_again n m v)

  -- the statements of a body, and its end
  pub body_again : (n : ℕ) (r : Returned) (body : Said (List StmtTree)) (ts rest : List Kind) → Took (body_form frame n r) body ts rest → (others : List Kind)
      → Took (body_form frame n (kept w r)) (said (kept w body.returned) body.it) (stmts_tokens (stmts body.it) (sign mark.BlockClose others)) others
  unfolding LevelAgain
  body_again n r body ts rest took others = block_again names scope w (statement_form frame n) (statement_form frame n) (statement_again n n (within_same n)) r body ts rest took others
