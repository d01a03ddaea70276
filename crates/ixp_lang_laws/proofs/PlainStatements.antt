-- Statements that hold no others and return nothing are spelt by their canonical tokens.
use Rattle.std.proofs.Common.{◌≡◌, ℕ, inl, inr, true, List, Some, None, refl, sym, ap, subst}
use Rattle.ixp_lang_tokens.specs.declared.token.Kind.{Kind}
use Rattle.ixp_lang_tokens.specs.declared.token.Mark.TheVariants as mark
use Rattle.ixp_lang_tokens.specs.declared.fault.Cause.TheVariants.{Unknown}
use Rattle.ixp_lang_tokens.specs.Grammars.{Took}
use Rattle.ixp_lang.specs.Trees.{ExprTree, StmtTree, call_statement, exprs}
use Rattle.ixp_lang_exprs.specs.declared.types.ValueType.{ValueType}
use Rattle.ixp_lang_exprs.specs.declared.types.ValueType.TheVariants.{Int, Ip, Pair, Triple, PairSet, TripleSet}
use Rattle.ixp_lang_exprs.specs.declared.env.Signature.{Signature}
use Rattle.ixp_lang_exprs.specs.declared.context.Scope.{Scope}
use Rattle.ixp_lang_exprs.specs.Types.{same_type}
use Rattle.ixp_lang_exprs.specs.Names.{Names, function_of}
use Rattle.ixp_lang_exprs.specs.Operands.{one_type}
use Rattle.ixp_lang_exprs.specs.Expressions.{Parts}
use Rattle.ixp_lang_stmts.specs.Statements.{value_end, enclosed_end, params_of, change_form}
use Rattle.ixp_lang_laws.specs.Canonical.{expr_tokens, sign}
use Rattle.ixp_lang_laws.specs.CanonicalItems.{stmt_tokens, last_tokens}
use Rattle.ixp_lang_laws.proofs.Basics.{Within, sound, none_unfit, fits_again, there, there_again}
use Rattle.ixp_lang_laws.proofs.Parentheses.{at}
use Rattle.ixp_lang_laws.proofs.Expressions.{expression_again, ArgumentsAgain, arguments_again}

module _ (names : Names) (scope : Scope) where
  abbrev ValueAgain : ℕ → ValueType → ExprTree → Type 0
  ValueAgain n wanted e = (m : ℕ) → Within n m → (s : ℕ) (rest : List Kind) → Took (value_end (at names scope s) m wanted) e (last_tokens e rest) rest

  value_again : (n : ℕ) (wanted : ValueType) (s : ℕ) (e : ExprTree) (ts rest : List Kind) → Took (value_end (at names scope s) n wanted) e ts rest → ValueAgain n wanted e
  value_again n wanted s e ts rest (value, mid, took, (x, more, semicolon, (fit, (is, same)))) =
      let h : (value.misfit ≡ None) × (same_type value.ty wanted ≡ true) = none_unfit value wanted s fit in
      subst (λ y. ValueAgain n wanted y) (sym is) (λ m w s' others.
      (let whole = (expression_again names scope n s (one_type wanted s) value ts mid took h.0 m w).whole in
      (sound value.tree value.ty whole.0, _, whole.1 s' (one_type wanted s') h.1 (sign mark.Semicolon others) (refl, refl), (tt, _, (refl, refl), (fits_again value.tree value.ty wanted whole.0 s' h.1, (refl, refl))))))

  abbrev EnclosedAgain : ℕ → ValueType → ExprTree → Type 0
  EnclosedAgain n wanted e =
      (m : ℕ) → Within n m → (s : ℕ) (rest : List Kind) → Took (enclosed_end (at names scope s) m wanted) e (sign mark.Open (expr_tokens e (sign mark.Close (sign mark.Semicolon rest)))) rest

  enclosed_again : (n : ℕ) (wanted : ValueType) (s : ℕ) (e : ExprTree) (ts rest : List Kind) → Took (enclosed_end (at names scope s) n wanted) e ts rest → EnclosedAgain n wanted e
  enclosed_again n wanted s e ts rest (y, start, open_, (value, mid, took, (x, more, close, (fit, (z, last, semicolon, (is, same)))))) =
      let h : (value.misfit ≡ None) × (same_type value.ty wanted ≡ true) = none_unfit value wanted s fit in
      subst (λ y. EnclosedAgain n wanted y) (sym is) (λ m w s' others.
      (let whole = (expression_again names scope n s (one_type wanted s) value start mid took h.0 m w).whole in (
        tt,
        _,
        (refl, refl),
        (
          sound value.tree value.ty whole.0,
          _,
          whole.1 s' (one_type wanted s') h.1 (sign mark.Close (sign mark.Semicolon others)) (refl, refl),
          (tt, _, (refl, refl), (fits_again value.tree value.ty wanted whole.0 s' h.1, (tt, _, (refl, refl), (refl, refl)))),
        ),
      )))

  -- a statement that is spelt by its canonical tokens, with these levels or more
  abbrev pub ChangeAgain : ℕ → StmtTree → Type 0
  ChangeAgain n st = (m : ℕ) → Within n m → (s : ℕ) (rest : List Kind) → Took (change_form (at names scope s) m) st (stmt_tokens st rest) rest

  pub call_spells : (n : ℕ) (name : List ℕ) (parts : Parts) (d : Signature) → function_of (names name) ≡ Some d → ArgumentsAgain names scope n (params_of (function_of (names name))) parts → ChangeAgain n (call_statement name (exprs parts.trees))
  unfolding change_form
  call_spells n name parts d known spells m w s rest =
      (let new = spells m w s s (sign mark.Semicolon rest) in
      inl (name, _, (refl, refl), (there_again (function_of (names name)) d (Unknown, s) known, (tt, _, (refl, refl), (new.0, _, new.2, (tt, _, (refl, refl), (ap (λ es. call_statement name (exprs es)) (sym new.1), refl)))))))

  pub change_again : (n s : ℕ) (st : StmtTree) (ts rest : List Kind) → Took (change_form (at names scope s) n) st ts rest → ChangeAgain n st
  unfolding change_form
  change_again n s st ts rest (inl (name, a, token, (known, (x, b, open_, (parts, c, took, (y, d, semicolon, (is, same))))))) =
      (let f = there (function_of (names name)) (Unknown, s) known in
      subst (ChangeAgain n) (sym is) (call_spells n name parts f.0 f.1 (arguments_again names scope n (expression_again names scope n) (params_of (function_of (names name))) s s parts b c took)))
  change_again n s st ts rest (inr (inl (x, a, word, (y, b, equal, (value, c, took, (is, same)))))) =
      subst (ChangeAgain n) (sym is) (λ m w s' others. inr (inl (tt, _, (refl, refl), (tt, _, (refl, refl), (value, _, value_again n Ip s value b c took m w s' others, (refl, refl))))))
  change_again n s st ts rest (inr (inr (inl (x, a, word, (y, b, dot, (z, c, part, (value, d, took, (is, same)))))))) =
      subst (ChangeAgain n) (sym is) (λ m w s' others.
      inr (inr (inl (tt, _, (refl, refl), (tt, _, (refl, refl), (tt, _, (refl, refl), (value, _, enclosed_again n Int s value c d took m w s' others, (refl, refl))))))))
  change_again n s st ts rest (inr (inr (inr (inl (x, a, word, (y, b, dot, inl (z, c, part, (value, d, took, (is, same))))))))) =
      subst (ChangeAgain n) (sym is) (λ m w s' others.
      inr (inr (inr (inl (tt, _, (refl, refl), (tt, _, (refl, refl), inl (tt, _, (refl, refl), (value, _, enclosed_again n Pair s value c d took m w s' others, (refl, refl)))))))))
  change_again n s st ts rest (inr (inr (inr (inl (x, a, word, (y, b, dot, inr (z, c, part, (value, d, took, (is, same))))))))) =
      subst (ChangeAgain n) (sym is) (λ m w s' others.
      inr (inr (inr (inl (tt, _, (refl, refl), (tt, _, (refl, refl), inr (tt, _, (refl, refl), (value, _, enclosed_again n PairSet s value c d took m w s' others, (refl, refl)))))))))
  change_again n s st ts rest (inr (inr (inr (inr (inl (x, a, word, (y, b, dot, inl (z, c, part, (value, d, took, (is, same)))))))))) =
      subst (ChangeAgain n) (sym is) (λ m w s' others.
      inr (inr (inr (inr (inl (tt, _, (refl, refl), (tt, _, (refl, refl), inl (tt, _, (refl, refl), (value, _, enclosed_again n Triple s value c d took m w s' others, (refl, refl))))))))))
  change_again n s st ts rest (inr (inr (inr (inr (inl (x, a, word, (y, b, dot, inr (z, c, part, (value, d, took, (is, same)))))))))) =
      subst (ChangeAgain n) (sym is) (λ m w s' others.
      inr (inr (inr (inr (inl (tt, _, (refl, refl), (tt, _, (refl, refl), inr (tt, _, (refl, refl), (value, _, enclosed_again n TripleSet s value c d took m w s' others, (refl, refl))))))))))
  change_again n s st ts rest (inr (inr (inr (inr (inr (inl (x, a, word, (y, b, semicolon, (is, same))))))))) =
      subst (ChangeAgain n) (sym is) (λ m w s' others. inr (inr (inr (inr (inr (inl (tt, _, (refl, refl), (tt, _, (refl, refl), (refl, refl)))))))))
  change_again n s st ts rest (inr (inr (inr (inr (inr (inr (x, a, word, (y, b, semicolon, (is, same))))))))) =
      subst (ChangeAgain n) (sym is) (λ m w s' others. inr (inr (inr (inr (inr (inr (tt, _, (refl, refl), (tt, _, (refl, refl), (refl, refl)))))))))
