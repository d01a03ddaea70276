-- The statements that a text spells fit.
use Rattle.std.proofs.Common.{◌≡◌, ℕ, zero, suc, Bool, true, false, ◌&&◌, ◌||◌, not, List, [], ◌∷◌, ◌++◌, Option, Some, None, refl, sym, ap, ◌∙◌, subst, if◌then◌else◌}
use Rattle.std.specs.List.{list_all}
use Rattle.std.proofs.lemmas.Bool.{and_parts}
use Rattle.ixp_lang.specs.Trees.{ExprTree, StmtTree, block, if_then, case_of, return_value, add_pair, delete_pairs, add_triple, delete_triples, stmts, exprs}
use Rattle.ixp_lang.specs.declared.stmt.Label.{Label}
use Rattle.ixp_lang_tokens.specs.declared.token.Mark.TheVariants as mark
use Rattle.ixp_lang_exprs.specs.declared.types.ValueType.{ValueType}
use Rattle.ixp_lang_exprs.specs.declared.types.ValueType.TheVariants.{Bool as Truth, Int, Ip, Pair, Triple, State, PairSet, TripleSet}
use Rattle.ixp_lang_exprs.specs.declared.env.Signature.{Signature}
use Rattle.ixp_lang_exprs.specs.declared.context.Scope.{Scope}
use Rattle.ixp_lang_exprs.specs.Types.{same_type, same_as, is_of_values}
use Rattle.ixp_lang_exprs.specs.Names.{Names, function_of}
use Rattle.ixp_lang_exprs.specs.Sets.{unless_so}
use Rattle.ixp_lang_exprs.specs.Operands.{Operand, one_type, settled, misfit_at}
use Rattle.ixp_lang_exprs.specs.Expressions.{Place, expression_form}
use Rattle.ixp_lang_stmts.specs.Statements.{Frame, place_in, may_return, Returned, returned_wanted, subject_wanted, may_meet, met, Said, said, value_end, enclosed_end, params_of as written_params, call_form, return_form, next_hop_end, prepend_end, change_end, change_form, plain_form, label_form, labels_form, is_state, no_case, Statements, statements_of, block_end, nothing, deeper, block_form, no_branch, branch_form, else_form, test_end, if_form, Arms, arms, arms_form, case_end, Subject, subject_end, case_form, statement_with, statement_form, body_form}
use Rattle.ixp_lang_laws.specs.Sound.{some_of, params_of, type_of, arguments_fit}
use Rattle.ixp_lang_laws.specs.SoundStatements.{label_fits, returned_by, returned_in, returned_arms, is_of, stmt_fits, stmts_fit, arms_fit}
use Rattle.ixp_lang_laws.proofs.SaidBasics.{Within, both, all_pass, both_none, is_so, is_there, none_settled}
use Rattle.ixp_lang_laws.proofs.Saying.{Says, says_gives, says_token, says_sequence, says_then, says_choice, says_checks, says_bars, says_unless, says_here, says_rounds, says_mark, says_word, says_name, says_number, says_never, says_ended, AreSome, says_listed}
use Rattle.ixp_lang_laws.proofs.SaidExpressions.{Whole, Sound, Of, of_type}
use Rattle.ixp_lang_laws.proofs.SaidParentheses.{says_arguments}
use Rattle.ixp_lang_laws.proofs.SaidOperands.{says_expression}
use Rattle.ixp_lang_laws.proofs.Statements.{any_type}

-- What is returned until then, where a written type is left out: nothing, up to the first `return`.
abbrev pub kept : Bool → Returned → Returned
kept false r = r
kept true r = record { ty = if r.is_met then r.ty else None; is_met = r.is_met }

kept_met : (is_written : Bool) (t : ValueType) → met t ≡ kept is_written (met t)
kept_met true t = refl
kept_met false t = refl

kept_may : (is_written : Bool) (r : Returned) (t : ValueType) → may_meet r t ≡ true → may_meet (kept is_written r) t ≡ true
kept_may false r t e = e
kept_may true r t e = any_type (is_of_values t) r.is_met r.ty t e

same_params : (d : Option Signature) → written_params d ≡ params_of d
same_params None = refl
same_params (Some s) = refl

-- Rows, from what is known of each statement.
module _ (names : Names) (scope : Scope) where
  returned_more : (r : Returned) (ss : List StmtTree) (s : StmtTree) → returned_in names scope r (stmts (ss ++ s ∷ [])) ≡ returned_by names scope (returned_in names scope r (stmts ss)) s
  returned_more r [] s = refl
  returned_more r (t ∷ ss) s = returned_more (returned_by names scope r t) ss s

  more_fit : (m : ℕ) (r : Returned) (ss : List StmtTree) (s : StmtTree) → stmts_fit names scope m r (stmts ss) ≡ true → stmt_fits names scope m (returned_in names scope r (stmts ss)) s ≡ true
      → stmts_fit names scope m r (stmts (ss ++ s ∷ [])) ≡ true
  more_fit m r [] s all one = both one refl
  more_fit m r (t ∷ ss) s all one =
      let h = and_parts (stmt_fits names scope m r t) (stmts_fit names scope m (returned_by names scope r t) (stmts ss)) all in
      both h.0 (more_fit m (returned_by names scope r t) ss s h.1 one)

  abbrev Arm : Type 0
  Arm = List Label × List StmtTree

  returned_arm : (r : Returned) (earlier : List Arm) (a : Arm) → returned_arms names scope r (arms (earlier ++ a ∷ [])) ≡ returned_in names scope (returned_arms names scope r (arms earlier)) (stmts a.1)
  returned_arm r [] a = refl
  returned_arm r (b ∷ earlier) a = returned_arm (returned_in names scope r (stmts b.1)) earlier a

  arm_fits : (m : ℕ) (states : Bool) (r : Returned) (earlier : List Arm) (a : Arm) → arms_fit names scope m states r (arms earlier) ≡ true → some_of a.0 ≡ true → list_all (label_fits states) a.0 ≡ true
      → stmts_fit names scope m (returned_arms names scope r (arms earlier)) (stmts a.1) ≡ true → arms_fit names scope m states r (arms (earlier ++ a ∷ [])) ≡ true
  arm_fits m states r [] a all some labels one = both (both (both some labels) one) refl
  arm_fits m states r (b ∷ earlier) a all some labels one =
      let h = and_parts (some_of b.0 && list_all (label_fits states) b.0 && stmts_fit names scope m r (stmts b.1)) (arms_fit names scope m states (returned_in names scope r (stmts b.1)) (arms earlier)) all in
      both h.0 (arm_fits m states (returned_in names scope r (stmts b.1)) earlier a h.1 some labels one)

  -- a statement that returns nothing fits, with so many levels or more, whatever was returned before
  abbrev Changes : ℕ → StmtTree → Type 0
  Changes n s = ((m : ℕ) → Within n m → (r : Returned) → stmt_fits names scope m r s ≡ true) × ((r : Returned) → returned_by names scope r s ≡ r)

  is_typed : (t : ValueType) (n : ℕ) (e : ExprTree) → Of names scope t n e → (m : ℕ) → Within n m → is_of names scope t m e ≡ true
  is_typed t n e one m w = both (one.1 m w) one.0

-- Statements that hold no others.

module _ (at : Place) (n : ℕ) where
  says_value_end : (wanted : ValueType) → Says (value_end at n wanted) (Of at.names at.scope wanted n)
  says_value_end wanted =
      says_sequence (says_expression at n (one_type wanted at.statement)) (λ o sound.
      says_then (says_mark mark.Semicolon) (λ x. says_checks (λ fit. says_gives (of_type at.names at.scope n o wanted at.statement sound fit))))

  says_enclosed_end : (wanted : ValueType) → Says (enclosed_end at n wanted) (Of at.names at.scope wanted n)
  says_enclosed_end wanted =
      says_then (says_mark mark.Open) (λ x.
      says_sequence (says_expression at n (one_type wanted at.statement)) (λ o sound.
      says_then (says_mark mark.Close) (λ y. says_checks (λ fit. says_ended mark.Semicolon (of_type at.names at.scope n o wanted at.statement sound fit)))))

  says_call : Says (call_form at n) (Changes at.names at.scope n)
  says_call =
      says_then says_name (λ name.
      says_checks (λ known.
      says_then (says_mark mark.Open) (λ x.
      says_sequence (says_arguments at.names at.scope n (expression_form at n) (says_expression at n) at (written_params (function_of (at.names name))) at.statement) (λ parts all.
      says_ended mark.Semicolon (
        (λ m w r. both (is_there (function_of (at.names name)) _ known) (subst (λ ps. arguments_fit at.names at.scope m ps (exprs parts.trees) ≡ true) (same_params (function_of (at.names name))) (all m w))),
        λ r. refl,
      )))))

  says_next_hop : Says (next_hop_end at n) (Changes at.names at.scope n)
  says_next_hop =
      says_then (says_mark mark.Equal) (λ x. says_sequence (says_value_end Ip) (λ e one. says_gives ((λ m w r. is_typed at.names at.scope Ip n e one m w), λ r. refl)))

  says_prepend : Says (prepend_end at n) (Changes at.names at.scope n)
  says_prepend =
      says_then (says_mark mark.Dot) (λ x.
      says_then (says_word _) (λ y. says_sequence (says_enclosed_end Int) (λ e one. says_gives ((λ m w r. is_typed at.names at.scope Int n e one m w), λ r. refl))))

  says_change_end : (one : ValueType) (add : ExprTree → StmtTree) (many : ValueType) (delete : ExprTree → StmtTree)
      → ((e : ExprTree) → Of at.names at.scope one n e → Changes at.names at.scope n (add e)) → ((e : ExprTree) → Of at.names at.scope many n e → Changes at.names at.scope n (delete e))
      → Says (change_end at n one add many delete) (Changes at.names at.scope n)
  says_change_end one add many delete adds deletes =
      says_then (says_mark mark.Dot) (λ x.
      says_choice (says_then (says_word _) (λ y. says_sequence (says_enclosed_end one) (λ e is. says_gives (adds e is))))
      (says_then (says_word _) (λ y. says_sequence (says_enclosed_end many) (λ e is. says_gives (deletes e is)))))

  says_change : Says (change_form at n) (Changes at.names at.scope n)
  unfolding change_form
  says_change =
      says_choice says_call
      (says_choice (says_then (says_word _) (λ x. says_next_hop))
      (says_choice (says_then (says_word _) (λ x. says_prepend))
      (says_choice (says_then (says_word _) (λ x. says_change_end Pair add_pair PairSet delete_pairs (λ e one. ((λ m w r. is_typed at.names at.scope Pair n e one m w), λ r. refl)) (λ e one. ((λ m w r. is_typed at.names at.scope PairSet n e one m w), λ r. refl))))
      (says_choice (says_then (says_word _) (λ x. says_change_end Triple add_triple TripleSet delete_triples (λ e one. ((λ m w r. is_typed at.names at.scope Triple n e one m w), λ r. refl)) (λ e one. ((λ m w r. is_typed at.names at.scope TripleSet n e one m w), λ r. refl))))
      (says_choice (says_then (says_word _) (λ x. says_ended mark.Semicolon ((λ m w r. refl), λ r. refl)))
      (says_then (says_word _) (λ x. says_ended mark.Semicolon ((λ m w r. refl), λ r. refl))))))))

module _ (names : Names) (scope : Scope) (is_written : Bool) where
  abbrev frame : Frame
  frame = record { names = names; scope = scope }

  -- The statement fits with so many levels or more, where this was returned before; and what is returned behind it.
  abbrev IsStmt : ℕ → Returned → Said StmtTree → Type 0
  IsStmt n r one = ((m : ℕ) → Within n m → stmt_fits names scope m (kept is_written r) one.it ≡ true) × (returned_by names scope (kept is_written r) one.it ≡ kept is_written one.returned)

  -- and so of several in a row
  abbrev pub AreStmts : ℕ → Returned → Said (List StmtTree) → Type 0
  AreStmts n r body = ((m : ℕ) → Within n m → stmts_fit names scope m (kept is_written r) (stmts body.it) ≡ true) × (returned_in names scope (kept is_written r) (stmts body.it) ≡ kept is_written body.returned)

  return_is : (n s : ℕ) (r : Returned) (o : Operand) → Sound names scope (Whole names scope n) o → may_return scope ≡ true → o.misfit ≡ None → may_meet r o.ty ≡ true → IsStmt n r (said (met o.ty) (return_value o.tree))
  return_is n s r o sound may none meets = (
    (λ m w. both (both may (sound.1 none m w)) (subst (λ t. may_meet (kept is_written r) t ≡ true) (sym sound.0) (kept_may is_written r o.ty meets))),
    ap met sound.0 ∙ kept_met is_written o.ty,
  )

  says_return : (s n : ℕ) (r : Returned) → Says (return_form (place_in frame s) n r) (IsStmt n r)
  says_return s n r =
      says_then (says_word _) (λ x.
      says_checks (λ may.
      says_sequence (says_expression (place_in frame s) n (returned_wanted r s)) (λ o sound.
      says_then (says_mark mark.Semicolon) (λ y.
      says_checks (λ fit.
      let h : (settled o ≡ None) × (unless_so (may_meet r o.ty) (misfit_at s) ≡ None) = both_none (settled o) _ fit in
      says_gives (return_is n s r o sound (is_so (may_return scope) _ may) (none_settled o.misfit h.0) (is_so (may_meet r o.ty) _ h.1)))))))

  says_simple : (n : ℕ) (r : Returned) → Says (plain_form frame n r) (IsStmt n r)
  says_simple n r =
      says_here (λ s. says_choice (says_return s n r) (says_sequence (says_change (place_in frame s) n) (λ change is. says_gives ((λ m w. is.0 m w (kept is_written r)), is.1 (kept is_written r)))))

  -- Statements that hold others.

  abbrev IsLevel : ℕ → Statements → Type 0
  IsLevel n statement = (in_arm : Bool) (r : Returned) → Says (statement in_arm r) (IsStmt n r)

  row_more : (n : ℕ) (r : Returned) (before : Said (List StmtTree)) (one : Said StmtTree) → AreStmts n r before → IsStmt n before.returned one → AreStmts n r (said one.returned (before.it ++ one.it ∷ []))
  row_more n r before one all is = (
    (λ m w. more_fit names scope m (kept is_written r) before.it one.it (all.0 m w) (subst (λ x. stmt_fits names scope m x one.it ≡ true) (sym all.1) (is.0 m w))),
    returned_more names scope (kept is_written r) before.it one.it ∙ (ap (λ x. returned_by names scope x one.it) all.1 ∙ is.1),
  )

  -- an arm of a `case`
  abbrev AreLabels : Bool → List Label → Type 0
  AreLabels states = AreSome (λ l. label_fits states l ≡ true)

  says_label : (states : Bool) (place : ℕ) → Says (label_form states place) (λ l. label_fits states l ≡ true)
  says_label states place =
      says_choice
      (says_then says_number (λ low.
      says_checks (λ numbers.
      says_choice (says_then (says_mark mark.Range) (λ x. says_then says_number (λ high. says_gives (is_so (not states) _ numbers)))) (says_gives (is_so (not states) _ numbers)))))
      (says_then (says_token _) (λ state. says_checks (λ fit. says_gives (is_so states _ fit))))

  says_labels : (states : Bool) (place : ℕ) → Says (labels_form states place) (AreLabels states)
  says_labels states place = says_sequence (says_listed (λ before. says_label states place)) (λ labels all. says_ended mark.Colon all)

  abbrev AreArms : ℕ → Bool → Returned → Arms → Type 0
  AreArms n states r a = ((m : ℕ) → Within n m → arms_fit names scope m states (kept is_written r) (arms a.it) ≡ true) × (returned_arms names scope (kept is_written r) (arms a.it) ≡ kept is_written a.returned)

  arm_more : (n : ℕ) (states : Bool) (r : Returned) (before : Arms) (labels : List Label) (body : Said (List StmtTree)) → AreArms n states r before → AreLabels states labels → AreStmts n before.returned body
      → AreArms n states r (said body.returned (before.it ++ (labels, body.it) ∷ []))
  arm_more n states r before labels body all are is = (
    (λ m w. arm_fits names scope m states (kept is_written r) before.it (labels, body.it) (all.0 m w) are.0 (all_pass (label_fits states) labels are.1) (subst (λ x. stmts_fit names scope m x (stmts body.it) ≡ true) (sym all.1) (is.0 m w))),
    returned_arm names scope (kept is_written r) before.it (labels, body.it) ∙ (ap (λ x. returned_in names scope x (stmts body.it)) all.1 ∙ is.1),
  )

  module _ (n : ℕ) (statement : Statements) (k : IsLevel n statement) where
    says_statements : (in_arm : Bool) (r : Returned) → Says (statements_of statement in_arm r) (AreStmts n r)
    says_statements in_arm r =
        says_rounds (AreStmts n r) ((λ m w. refl), refl) (λ before all. says_choice (says_sequence (k in_arm before.returned) (λ one is. says_gives (row_more n r before one all is))) (says_gives all))

    says_block_end : (r : Returned) → Says (block_end statement r) (AreStmts n r)
    says_block_end r = says_sequence (says_statements false r) (λ body all. says_ended mark.BlockClose all)

    block_fits : (r : Returned) (body : Said (List StmtTree)) → AreStmts n r body → (m : ℕ) → Within (suc n) m → stmt_fits names scope m (kept is_written r) (block (stmts body.it)) ≡ true
    block_fits r body all zero w = absurd w
    block_fits r body all (suc m) w = all.0 m w

    says_block : (r : Returned) → Says (block_form (deeper n statement) r) (IsStmt (suc n) r)
    says_block r = says_then (says_mark mark.BlockOpen) (λ x. says_sequence (says_block_end r) (λ body all. says_gives ((λ m w. block_fits r body all m w), all.1)))

    single : (r : Returned) (one : Said StmtTree) → IsStmt n r one → AreStmts n r (said one.returned (one.it ∷ []))
    single r one is = ((λ m w. both (is.0 m w) refl), is.1)

    says_branch : (in_arm : Bool) (r : Returned) → Says (branch_form frame (deeper n statement) in_arm r) (AreStmts n r)
    says_branch in_arm r =
        says_choice (says_then (says_mark mark.BlockOpen) (λ x. says_block_end r)) (says_unless (says_sequence (k in_arm r) (λ one is. says_gives (single r one is))))

    if_fits : (r : Returned) (test : ExprTree) (then_do else_do : Said (List StmtTree)) → Of names scope Truth (suc n) test → AreStmts n r then_do → AreStmts n then_do.returned else_do
        → (m : ℕ) → Within (suc n) m → stmt_fits names scope m (kept is_written r) (if_then test (stmts then_do.it) (stmts else_do.it)) ≡ true
    if_fits r test then_do else_do is one two zero w = absurd w
    if_fits r test then_do else_do is one two (suc m) w =
        both (is_typed names scope Truth (suc n) test is (suc m) w) (both (one.0 m w) (subst (λ x. stmts_fit names scope m x (stmts else_do.it) ≡ true) (sym one.1) (two.0 m w)))

    if_is : (r : Returned) (test : ExprTree) (then_do else_do : Said (List StmtTree)) → Of names scope Truth (suc n) test → AreStmts n r then_do → AreStmts n then_do.returned else_do
        → IsStmt (suc n) r (said else_do.returned (if_then test (stmts then_do.it) (stmts else_do.it)))
    if_is r test then_do else_do is one two = ((λ m w. if_fits r test then_do else_do is one two m w), ap (λ x. returned_in names scope x (stmts else_do.it)) one.1 ∙ two.1)

    says_else : (in_arm : Bool) (r : Returned) (test : ExprTree) (then_do : Said (List StmtTree)) → Of names scope Truth (suc n) test → AreStmts n r then_do → Says (else_form frame (deeper n statement) in_arm test then_do) (IsStmt (suc n) r)
    says_else in_arm r test then_do is one =
        says_choice
        (says_unless (says_then (says_word _) (λ x. says_sequence (says_branch in_arm then_do.returned) (λ else_do two. says_gives (if_is r test then_do else_do is one two)))))
        (says_unless (says_gives (if_is r test then_do (said then_do.returned []) is one ((λ m w. refl), refl))))

  -- what is tested
  says_test : (s n : ℕ) → Says (test_end (place_in frame s) n) (Of names scope Truth n)
  says_test s n =
      says_sequence (says_expression (place_in frame s) n (one_type Truth s)) (λ o sound.
      says_then (says_word _) (λ x. says_checks (λ fit. says_gives (of_type names scope n o Truth s sound fit))))

  says_no_branch : {A : Type 0} {P : A → Type 0} → Says (no_branch {A = A} frame) P
  says_no_branch =
      says_bars
      (says_choice (says_here (λ place. says_then says_name (λ name. says_checks (λ fault. says_never)))) (says_here (λ place. says_then (says_token _) (λ word. says_checks (λ fault. says_never)))))

  says_if : (n : ℕ) (statement : Statements) → IsLevel n statement → (in_arm : Bool) (r : Returned) → Says (if_form frame (suc n) (deeper n statement) in_arm r) (IsStmt (suc n) r)
  says_if n statement k in_arm r =
      says_here (λ s.
      says_then (says_word _) (λ x.
      says_sequence (says_test s (suc n)) (λ test is. says_sequence (says_branch n statement k in_arm r) (λ then_do one. says_else n statement k in_arm r test then_do is one))))

  says_no_if : (in_arm : Bool) (r : Returned) → Says (if_form frame zero nothing in_arm r) (IsStmt zero r)
  says_no_if in_arm r =
      says_here (λ s.
      says_then (says_word _) (λ x.
      says_sequence (says_test s zero) (λ test is. says_sequence {Q = λ then_do. ⊥} says_no_branch (λ then_do none. absurd none))))

  -- what a `case` is about
  abbrev IsSubject : ℕ → Subject → Type 0
  IsSubject n s =
      Whole names scope n s.on × ((same_type (type_of names scope s.on) Int || same_type (type_of names scope s.on) State) ≡ true) × (is_state (type_of names scope s.on) ≡ s.is_of_states)

  says_subject : (s n : ℕ) → Says (subject_end (place_in frame s) n) (IsSubject n)
  says_subject s n =
      says_sequence (says_expression (place_in frame s) n (subject_wanted s)) (λ o sound.
      says_then (says_mark mark.BlockOpen) (λ x.
      says_checks (λ fit.
      let h : (settled o ≡ None) × (no_case o.ty s ≡ None) = both_none (settled o) _ fit in
      let same : (same_type o.ty Int || same_type o.ty State) ≡ true = is_so (same_type o.ty Int || same_type o.ty State) _ h.1 in
      says_gives (sound.1 (none_settled o.misfit h.0), subst (λ t. (same_type t Int || same_type t State) ≡ true) (sym sound.0) same, ap is_state sound.0))))

  module _ (n : ℕ) (statement : Statements) (k : IsLevel n statement) where
    says_arms : (states : Bool) (place : ℕ) (r : Returned) → Says (arms_form statement states place r) (AreArms n states r)
    says_arms states place r =
        says_rounds (AreArms n states r) ((λ m w. refl), refl) (λ before all.
        says_choice
        (says_sequence (says_labels states place) (λ labels are. says_sequence (says_statements n statement k true before.returned) (λ body is. says_gives (arm_more n states r before labels body all are is))))
        (says_gives all))

    says_case_end : (r : Returned) → Says (case_end statement r) (AreStmts n r)
    says_case_end r =
        says_choice (says_then (says_word _) (λ x. says_then (says_mark mark.Colon) (λ y. says_block_end n statement k r))) (says_ended mark.BlockClose ((λ m w. refl), refl))

    case_fits : (r : Returned) (s : Subject) (some_arms : Arms) (other : Said (List StmtTree)) → IsSubject n s → AreArms n s.is_of_states r some_arms → AreStmts n some_arms.returned other
        → (m : ℕ) → Within (suc n) m → stmt_fits names scope m (kept is_written r) (case_of s.on (arms some_arms.it) (stmts other.it)) ≡ true
    case_fits r s some_arms other is all others zero w = absurd w
    case_fits r s some_arms other is all others (suc m) w =
        both is.1
        (both
        (both (is.0 m w) (subst (λ states. arms_fit names scope m states (kept is_written r) (arms some_arms.it) ≡ true) (sym is.2) (all.0 m w)))
        (subst (λ x. stmts_fit names scope m x (stmts other.it) ≡ true) (sym all.1) (others.0 m w)))

    says_case : (r : Returned) → Says (case_form frame (deeper n statement) r) (IsStmt (suc n) r)
    says_case r =
        says_here (λ place.
        says_then (says_word _) (λ x.
        says_sequence (says_subject place n) (λ s is.
        says_sequence (says_arms s.is_of_states place r) (λ some_arms all.
        says_sequence (says_case_end some_arms.returned) (λ other others.
        says_gives ((λ m w. case_fits r s some_arms other is all others m w), ap (λ x. returned_in names scope x (stmts other.it)) all.1 ∙ others.1))))))

  says_level : (n : ℕ) → IsLevel n (statement_form frame n)
  unfolding statement_with
  says_level zero in_arm r = says_choice (says_bars says_never) (says_choice (says_no_if in_arm r) (says_choice (says_bars says_never) (says_simple zero r)))
  says_level (suc n) in_arm r =
      says_choice (says_block n (statement_form frame n) (says_level n) r)
      (says_choice (says_if n (statement_form frame n) (says_level n) in_arm r) (says_choice (says_case n (statement_form frame n) (says_level n) r) (says_simple (suc n) r)))

  -- what a text spells as the statements of a block fits
  pub says_body : (n : ℕ) (r : Returned) → Says (body_form frame n r) (AreStmts n r)
  says_body n r = says_block_end n (statement_form frame n) (says_level n) r
