-- Rows of statements, from what is known of each.
use Rattle.std.proofs.Common.{◌≡◌, ℕ, zero, suc, inl, inr, Bool, true, false, ◌&&◌, List, [], ◌∷◌, ◌++◌, Option, None, refl, sym, ap, ◌∙◌, subst, if◌then◌else◌, append_assoc, append-nil}
use Rattle.std.proofs.lemmas.Bool.{and_parts, and_from}
use Rattle.ixp_lang_tokens.specs.declared.token.Kind.{Kind}
use Rattle.ixp_lang_tokens.specs.declared.token.Mark.TheVariants as mark
use Rattle.ixp_lang_tokens.specs.Grammars.{Grammar, gives, sequence, choice, Step, onward, done, Rounds, Took}
use Rattle.ixp_lang.specs.Trees.{StmtTree, block, return_value, stmts}
use Rattle.ixp_lang_exprs.specs.declared.types.ValueType.{ValueType}
use Rattle.ixp_lang_exprs.specs.declared.context.Scope.{Scope}
use Rattle.ixp_lang_exprs.specs.Types.{is_of_values, same_as}
use Rattle.ixp_lang_exprs.specs.Names.{Names}
use Rattle.ixp_lang_exprs.specs.Operands.{settled, misfit_at}
use Rattle.ixp_lang_exprs.specs.Sets.{unless_so}
use Rattle.ixp_lang_stmts.specs.Statements.{Returned, returned_wanted, may_meet, met, Said, said, Statements, statements_of, with_statement, block_end, is_if_else, may_return, return_form}
use Rattle.ixp_lang_laws.specs.Canonical.{sign}
use Rattle.ixp_lang_laws.specs.CanonicalItems.{stmt_tokens, stmts_tokens}
use Rattle.ixp_lang_laws.proofs.Basics.{Within, sound, both_none, none_settled, is_so, so_again}
use Rattle.ixp_lang_laws.proofs.Parentheses.{at}
use Rattle.ixp_lang_laws.proofs.Expressions.{expression_again}

-- What is returned until then, where a written type is left out: nothing, up to the first `return`.
abbrev pub kept : Bool → Returned → Returned
kept false r = r
kept true r = record { ty = if r.is_met then r.ty else None; is_met = r.is_met }

kept_met : (w : Bool) (t : ValueType) → met t ≡ kept w (met t)
kept_met true t = refl
kept_met false t = refl

pub any_type : (of_values : Bool) (c : Bool) (ty : Option ValueType) (t : ValueType) → (of_values && same_as ty t) ≡ true → (of_values && same_as (if c then ty else None) t) ≡ true
any_type of_values true ty t e = e
any_type of_values false ty t e = and_from of_values true (and_parts of_values (same_as ty t) e).0 refl

kept_may : (w : Bool) (r : Returned) (t : ValueType) → may_meet r t ≡ true → may_meet (kept w r) t ≡ true
kept_may false r t e = e
kept_may true r t e = any_type (is_of_values t) r.is_met r.ty t e

-- no statement begins with `else`
pub no_else : (st : StmtTree) (in_arm : Bool) (rest : List Kind) → is_if_else in_arm (stmt_tokens st rest) ≡ false
no_else (block ss) in_arm rest = refl
no_else _ in_arm rest = refl

module _ (names : Names) (scope : Scope) (w : Bool) where
  -- `return`
  pub return_again : (n s : ℕ) (r : Returned) (one : Said StmtTree) (ts rest : List Kind) → Took (return_form (at names scope s) n r) one ts rest
      → (m : ℕ) → Within n m → (s' : ℕ) (others : List Kind) → Took (return_form (at names scope s') m (kept w r)) (said (kept w one.returned) one.it) (stmt_tokens one.it others) others
  return_again n s r one ts rest (x, a, word, (may, (value, b, took, (y, c, semicolon, (fit, (is, same)))))) m v s' others =
      let h : (settled value ≡ None) × (unless_so (may_meet r value.ty) (misfit_at s) ≡ None) = both_none (settled value) _ fit in
      subst (λ (z : Said StmtTree). Took (return_form (at names scope s') m (kept w r)) (said (kept w z.returned) z.it) (stmt_tokens z.it others) others) (sym is)
      (let whole = (expression_again names scope n s (returned_wanted r s) value a b took (none_settled value.misfit h.0) m v).whole in (
        tt,
        _,
        (refl, refl),
        (
          so_again (may_return scope) _ (is_so (may_return scope) _ may),
          (
            sound value.tree value.ty whole.0,
            _,
            whole.1 s' (returned_wanted (kept w r) s') (kept_may w r value.ty (is_so (may_meet r value.ty) _ h.1)) (sign mark.Semicolon others) (refl, refl),
            (
              tt,
              _,
              (refl, refl),
              (
                so_again (may_meet (kept w r) value.ty) _ (kept_may w r value.ty (is_so (may_meet r value.ty) _ h.1)),
                (ap (λ k. said k (return_value value.tree)) (sym (kept_met w value.ty)), refl),
              ),
            ),
          ),
        ),
      ))

  -- Rows, over the statements of a level.
  module _ (statement canonical : Statements) where
    -- a statement is spelt by its canonical tokens, in an arm or not
    abbrev pub StatementAgain : Type 0
    StatementAgain =
        (in_arm : Bool) (r : Returned) (one : Said StmtTree) (ts rest : List Kind) → Took (statement in_arm r) one ts rest → (other_arm : Bool) (others : List Kind) → is_if_else other_arm others ≡ false
        → Took (canonical other_arm (kept w r)) (said (kept w one.returned) one.it) (stmt_tokens one.it others) others

    abbrev kept_said : Said (List StmtTree) → Said (List StmtTree)
    kept_said body = said (kept w body.returned) body.it

    abbrev row : Statements → Bool → Said (List StmtTree) → Grammar (Step (Said (List StmtTree)) (Said (List StmtTree)))
    row st in_arm before = choice (sequence (st in_arm before.returned) (λ one. gives (onward (with_statement before one)))) (gives (done before))

    abbrev RowRounds : Statements → Bool → ℕ → Said (List StmtTree) → Said (List StmtTree) → List Kind → List Kind → Type 0
    RowRounds st in_arm = Rounds (λ s. Took (row st in_arm s))

    abbrev RowAgain : Said (List StmtTree) → Said (List StmtTree) → Type 0
    RowAgain before after =
        (new : List StmtTree) × (after.it ≡ before.it ++ new)
        × ((other_arm : Bool) (others : List Kind) → is_if_else other_arm others ≡ false → (j : ℕ) × RowRounds canonical other_arm j (kept_said before) (kept_said after) (stmts_tokens (stmts new) others) others)

    free_row : (new : List StmtTree) (other_arm : Bool) (others : List Kind) → is_if_else other_arm others ≡ false → is_if_else other_arm (stmts_tokens (stmts new) others) ≡ false
    free_row [] other_arm others free = free
    free_row (st ∷ new) other_arm others free = no_else st other_arm (stmts_tokens (stmts new) others)

    last_row : (in_arm : Bool) (before after : Said (List StmtTree)) (ts rest : List Kind) → Took (row statement in_arm before) (done after) ts rest → RowAgain before after
    last_row in_arm before after ts rest (inl (one, mid, took, (is, same))) = absurd (let e : ◌≡◌ {A = Step (Said (List StmtTree)) (Said (List StmtTree))} (done after) (onward (with_statement before one)) = is in let f : ⊥ = cc in f)
    last_row in_arm before after ts rest (inr (is, same)) =
        let e : ◌≡◌ {A = Step (Said (List StmtTree)) (Said (List StmtTree))} (done after) (done before) = is in
        let h : before ≡ after = cc in
        subst (λ z. RowAgain before z) h ([], sym (append-nil before.it), λ other_arm others free. (0, inr (refl, refl)))

    next_row : StatementAgain → (in_arm : Bool) (before next after : Said (List StmtTree)) (ts rest : List Kind) → Took (row statement in_arm before) (onward next) ts rest → RowAgain next after → RowAgain before after
    next_row again in_arm before next after ts rest (inr (is, same)) behind = absurd (let e : ◌≡◌ {A = Step (Said (List StmtTree)) (Said (List StmtTree))} (onward next) (done before) = is in let f : ⊥ = cc in f)
    next_row again in_arm before next after ts rest (inl (one, mid, took, (is, same))) behind =
        let e : ◌≡◌ {A = Step (Said (List StmtTree)) (Said (List StmtTree))} (onward next) (onward (with_statement before one)) = is in
        let h : next ≡ with_statement before one = cc in
        go (subst (λ z. RowAgain z after) h behind)
      where
        go : RowAgain (with_statement before one) after → RowAgain before after
        go (new, all, spells) = (
          one.it ∷ new,
          all ∙ append_assoc before.it (one.it ∷ []) new,
          λ other_arm others free.
              (let more = spells other_arm others free in (
                suc more.0,
                (
                  kept_said (with_statement before one),
                  stmts_tokens (stmts new) others,
                  inl (said (kept w one.returned) one.it, _, again in_arm before.returned one ts mid took other_arm (stmts_tokens (stmts new) others) (free_row new other_arm others free), (refl, refl)),
                  more.1,
                ),
              )),
        )

    rows_again : StatementAgain → (in_arm : Bool) (k : ℕ) (before after : Said (List StmtTree)) (ts rest : List Kind) → RowRounds statement in_arm k before after ts rest → RowAgain before after
    rows_again again in_arm zero before after ts rest took = last_row in_arm before after ts rest took
    rows_again again in_arm (suc k) before after ts rest (next, mid, took, more) = next_row again in_arm before next after ts mid took (rows_again again in_arm k next after mid rest more)

    -- as many statements as there are
    pub statements_again : StatementAgain → (in_arm : Bool) (r : Returned) (body : Said (List StmtTree)) (ts rest : List Kind) → Took (statements_of statement in_arm r) body ts rest
        → (other_arm : Bool) (others : List Kind) → is_if_else other_arm others ≡ false → Took (statements_of canonical other_arm (kept w r)) (kept_said body) (stmts_tokens (stmts body.it) others) others
    statements_again again in_arm r body ts rest (k, took) other_arm others free =
        by_row (rows_again again in_arm k (said r []) body ts rest took)
      where
        by_row : RowAgain (said r []) body → Took (statements_of canonical other_arm (kept w r)) (kept_said body) (stmts_tokens (stmts body.it) others) others
        by_row (new, all, spells) = subst (λ ss. Took (statements_of canonical other_arm (kept w r)) (kept_said body) (stmts_tokens (stmts ss) others) others) (sym all) (spells other_arm others free)

    -- the statements of a block and its end
    pub block_again : StatementAgain → (r : Returned) (body : Said (List StmtTree)) (ts rest : List Kind) → Took (block_end statement r) body ts rest → (others : List Kind)
        → Took (block_end canonical (kept w r)) (kept_said body) (stmts_tokens (stmts body.it) (sign mark.BlockClose others)) others
    block_again again r body ts rest (inner, mid, took, (x, more, close, (is, same))) others =
        subst (λ z. Took (block_end canonical (kept w r)) (kept_said z) (stmts_tokens (stmts z.it) (sign mark.BlockClose others)) others) (sym is)
        (kept_said inner, _, statements_again again false r inner ts mid took false (sign mark.BlockClose others) refl, (tt, _, (refl, refl), (refl, refl)))

    empty_row : StatementAgain → (in_arm : Bool) (k : ℕ) (r : Returned) (body : Said (List StmtTree)) (ts rest : List Kind) → RowRounds statement in_arm k (said r []) body ts rest → body.it ≡ [] → body.returned ≡ r
    empty_row again in_arm zero r body ts rest (inl (one, mid, took, (is, same))) none = absurd (let e : ◌≡◌ {A = Step (Said (List StmtTree)) (Said (List StmtTree))} (done body) (onward (with_statement (said r []) one)) = is in let f : ⊥ = cc in f)
    empty_row again in_arm zero r body ts rest (inr (is, same)) none =
        let e : ◌≡◌ {A = Step (Said (List StmtTree)) (Said (List StmtTree))} (done body) (done (said r [])) = is in
        let h : body ≡ said r [] = cc in
        ap (λ z. z.returned) h
    empty_row again in_arm (suc k) r body ts rest (next, mid, inr (is, same), more) none = absurd (let e : ◌≡◌ {A = Step (Said (List StmtTree)) (Said (List StmtTree))} (onward next) (done (said r [])) = is in let f : ⊥ = cc in f)
    empty_row again in_arm (suc k) r body ts rest (next, mid, inl (one, a, took, (is, same)), more) none =
        absurd
        (let e : ◌≡◌ {A = Step (Said (List StmtTree)) (Said (List StmtTree))} (onward next) (onward (with_statement (said r []) one)) = is in
        let h : next ≡ with_statement (said r []) one = cc in
        let row : RowAgain next body = rows_again again in_arm k next body mid rest more in
        let some : body.it ≡ next.it ++ row.0 = row.1 in
        let g : one.it ∷ row.0 ≡ [] = ap (λ z. z.it ++ row.0) (sym h) ∙ (sym some ∙ none) in
        let f : ⊥ = cc in f)

    -- an empty block returns nothing
    pub empty_block : StatementAgain → (r : Returned) (body : Said (List StmtTree)) (ts rest : List Kind) → Took (block_end statement r) body ts rest → body.it ≡ [] → body.returned ≡ r
    empty_block again r body ts rest (inner, mid, (k, took), (x, more, close, (is, same))) none =
        ap (λ z. z.returned) is ∙ empty_row again false k r inner ts mid took (ap (λ z. z.it) (sym is) ∙ none)
