-- Statements that fit are spelt by their canonical tokens.
use Rattle.std.proofs.Common.{◌≡◌, ℕ, zero, suc, inl, inr, Bool, true, false, ◌&&◌, ◌||◌, ◌==◌, List, [], ◌∷◌, ◌++◌, Option, Some, None, codes, refl, sym, ap, ◌∙◌, subst, append_assoc, append-nil}
use Rattle.std.specs.Option.{is_some}
use Rattle.std.specs.List.{list_all}
use Rattle.std.proofs.lemmas.Bool.{and_parts}
use Rattle.ixp_lang_tokens.specs.declared.token.Kind.{Kind}
use Rattle.ixp_lang_tokens.specs.declared.token.Mark.TheVariants as mark
use Rattle.ixp_lang_tokens.specs.Grammars.{Rounds, Took}
use Rattle.ixp_lang.specs.declared.stmt.Label.{Label}
use Rattle.ixp_lang.specs.declared.stmt.Label.TheVariants.{Range as Between, State as IsState}
use Rattle.ixp_lang.specs.Trees.{ExprTree, ExprTrees, StmtTree, block, if_then, case_of, return_value, accept, reject, call_statement, set_next_hop, prepend, add_pair, delete_pairs, add_triple, delete_triples, StmtTrees, stmts_end, stmts_more, stmts, ArmTrees, arms_end, arms_more}
use Rattle.ixp_lang_exprs.specs.declared.types.ValueType.{ValueType}
use Rattle.ixp_lang_exprs.specs.declared.types.ValueType.TheVariants.{Int, Bool as Truth, Ip, Pair, Triple, State, PairSet, TripleSet}
use Rattle.ixp_lang_exprs.specs.declared.env.Signature.{Signature}
use Rattle.ixp_lang_exprs.specs.declared.context.Scope.{Scope}
use Rattle.ixp_lang_exprs.specs.Types.{same_type}
use Rattle.ixp_lang_exprs.specs.Names.{Names, function_of}
use Rattle.ixp_lang_exprs.specs.Operands.{one_type}
use Rattle.ixp_lang_stmts.specs.Statements.{Frame, Returned, returned_wanted, subject_wanted, Said, said, may_return, may_meet, met, value_end, enclosed_end, change_form, params_of as params_there, plain_form, label_form, labels_form, is_state, block_end, deeper as inner, else_form, is_if_else, test_end, arms as made_arms, case_end, statement_with, statement_form, body_form}
use Rattle.ixp_lang_laws.specs.Canonical.{word, sign, list_of, expr_tokens}
use Rattle.ixp_lang_laws.specs.CanonicalItems.{label_tokens, last_tokens, stmt_tokens, stmts_tokens, else_tokens, other_tokens, arms_tokens}
use Rattle.ixp_lang_laws.proofs.Basics.{within_same, sound, so_again, fits_again}
use Rattle.ixp_lang_laws.proofs.Parentheses.{at}
use Rattle.ixp_lang_laws.proofs.Cases.{state_again, range_label}
use Rattle.ixp_lang_laws.proofs.Statements.{no_else}
use Rattle.ixp_lang_laws.proofs.PlainStatements.{call_spells}
use Rattle.ixp_lang_laws.proofs.Arms.{free_labels, free_other}
use Rattle.ixp_lang_laws.specs.Sound.{some_of, params_of, type_of, fits, arguments_fit}
use Rattle.ixp_lang_laws.specs.SoundStatements.{label_fits, returned_by, returned_in, returned_arms, is_of, stmt_fits, stmts_fit, arms_fit}
use Rattle.ixp_lang_laws.proofs.SoundLists.{and3, list_spelt, all_spell}
use Rattle.ixp_lang_laws.proofs.SoundParts.{parts_with}
use Rattle.ixp_lang_laws.proofs.SoundExpressions.{spelt, trees_of, trees_again, all_arguments, more_arguments}

abbrev pub row_of : StmtTrees → List StmtTree
row_of stmts_end = []
row_of (stmts_more s ss) = s ∷ row_of ss

pub row_again : (ss : StmtTrees) → stmts (row_of ss) ≡ ss
row_again stmts_end = refl
row_again (stmts_more s ss) = ap (λ xs. stmts_more s xs) (row_again ss)

abbrev pub arms_of : ArmTrees → List (List Label × List StmtTree)
arms_of arms_end = []
arms_of (arms_more ls ss arms) = (ls, row_of ss) ∷ arms_of arms

pub arms_again : (arms : ArmTrees) → made_arms (arms_of arms) ≡ arms
arms_again arms_end = refl
arms_again (arms_more ls ss arms) = ap (λ xs. arms_more ls xs (made_arms (arms_of arms))) (row_again ss) ∙ ap (λ xs. arms_more ls ss xs) (arms_again arms)

module _ (names : Names) (scope : Scope) where
  abbrev frame : Frame
  frame = record { names = names; scope = scope }

  abbrev T : ExprTree → ValueType
  T = type_of names scope

  -- Statements that hold no others.

  value_spelt : (n : ℕ) (wanted : ValueType) (e : ExprTree) → is_of names scope wanted n e ≡ true → (s : ℕ) (rest : List Kind) → Took (value_end (at names scope s) n wanted) e (last_tokens e rest) rest
  value_spelt n wanted e fit s rest =
      (let h = and_parts (fits names scope n e) (same_type (T e) wanted) fit in
      let whole = (spelt names scope n e h.0 n (within_same n)).whole in
      (sound e (T e) whole.0, _, whole.1 s (one_type wanted s) h.1 (sign mark.Semicolon rest) (refl, refl), (tt, _, (refl, refl), (fits_again e (T e) wanted whole.0 s h.1, (refl, refl)))))

  enclosed_spelt : (n : ℕ) (wanted : ValueType) (e : ExprTree) → is_of names scope wanted n e ≡ true → (s : ℕ) (rest : List Kind)
      → Took (enclosed_end (at names scope s) n wanted) e (sign mark.Open (expr_tokens e (sign mark.Close (sign mark.Semicolon rest)))) rest
  enclosed_spelt n wanted e fit s rest =
      (let h = and_parts (fits names scope n e) (same_type (T e) wanted) fit in
      let whole = (spelt names scope n e h.0 n (within_same n)).whole in (
        tt,
        _,
        (refl, refl),
        (
          sound e (T e) whole.0,
          _,
          whole.1 s (one_type wanted s) h.1 (sign mark.Close (sign mark.Semicolon rest)) (refl, refl),
          (tt, _, (refl, refl), (fits_again e (T e) wanted whole.0 s h.1, (tt, _, (refl, refl), (refl, refl)))),
        ),
      ))

  abbrev ChangeSpelt : ℕ → StmtTree → Type 0
  ChangeSpelt n st = (s : ℕ) (rest : List Kind) → Took (change_form (at names scope s) n) st (stmt_tokens st rest) rest

  call_spelt : (n : ℕ) (x : List ℕ) (es : ExprTrees) (d : Option Signature) → function_of (names x) ≡ d → is_some d ≡ true → arguments_fit names scope n (params_of d) es ≡ true → ChangeSpelt n (call_statement x es)
  call_spelt n x es None known found fit = absurd cc
  call_spelt n x es (Some signature) known found fit =
      subst (λ xs. ChangeSpelt n (call_statement x xs)) (trees_again es)
      (λ s rest. call_spells names scope n x (parts_with names scope (trees_of es) 0 Truth) signature known
      (subst (λ d. Rattle.ixp_lang_laws.proofs.Expressions.ArgumentsAgain names scope n (params_there d) (parts_with names scope (trees_of es) 0 Truth)) (sym known)
      (all_arguments names scope n signature.params es fit (λ p ps f. more_arguments names scope n [] p ps [] es refl f))) n (within_same n) s rest)

  next_hop_spelt : (n : ℕ) (e : ExprTree) → is_of names scope Ip n e ≡ true → ChangeSpelt n (set_next_hop e)
  unfolding change_form
  next_hop_spelt n e fit s rest = inr (inl (tt, _, (refl, refl), (tt, _, (refl, refl), (e, _, value_spelt n Ip e fit s rest, (refl, refl)))))

  prepend_spelt : (n : ℕ) (e : ExprTree) → is_of names scope Int n e ≡ true → ChangeSpelt n (prepend e)
  unfolding change_form
  prepend_spelt n e fit s rest = inr (inr (inl (tt, _, (refl, refl), (tt, _, (refl, refl), (tt, _, (refl, refl), (e, _, enclosed_spelt n Int e fit s rest, (refl, refl)))))))

  add_pair_spelt : (n : ℕ) (e : ExprTree) → is_of names scope Pair n e ≡ true → ChangeSpelt n (add_pair e)
  unfolding change_form
  add_pair_spelt n e fit s rest = inr (inr (inr (inl (tt, _, (refl, refl), (tt, _, (refl, refl), inl (tt, _, (refl, refl), (e, _, enclosed_spelt n Pair e fit s rest, (refl, refl))))))))

  delete_pairs_spelt : (n : ℕ) (e : ExprTree) → is_of names scope PairSet n e ≡ true → ChangeSpelt n (delete_pairs e)
  unfolding change_form
  delete_pairs_spelt n e fit s rest = inr (inr (inr (inl (tt, _, (refl, refl), (tt, _, (refl, refl), inr (tt, _, (refl, refl), (e, _, enclosed_spelt n PairSet e fit s rest, (refl, refl))))))))

  add_triple_spelt : (n : ℕ) (e : ExprTree) → is_of names scope Triple n e ≡ true → ChangeSpelt n (add_triple e)
  unfolding change_form
  add_triple_spelt n e fit s rest = inr (inr (inr (inr (inl (tt, _, (refl, refl), (tt, _, (refl, refl), inl (tt, _, (refl, refl), (e, _, enclosed_spelt n Triple e fit s rest, (refl, refl)))))))))

  delete_triples_spelt : (n : ℕ) (e : ExprTree) → is_of names scope TripleSet n e ≡ true → ChangeSpelt n (delete_triples e)
  unfolding change_form
  delete_triples_spelt n e fit s rest = inr (inr (inr (inr (inl (tt, _, (refl, refl), (tt, _, (refl, refl), inr (tt, _, (refl, refl), (e, _, enclosed_spelt n TripleSet e fit s rest, (refl, refl)))))))))

  accept_spelt : (n : ℕ) → ChangeSpelt n accept
  unfolding change_form
  accept_spelt n s rest = inr (inr (inr (inr (inr (inl (tt, _, (refl, refl), (tt, _, (refl, refl), (refl, refl))))))))

  reject_spelt : (n : ℕ) → ChangeSpelt n reject
  unfolding change_form
  reject_spelt n s rest = inr (inr (inr (inr (inr (inr (tt, _, (refl, refl), (tt, _, (refl, refl), (refl, refl))))))))

  -- Statements of a level.

  -- what the statement is, said behind what was returned before
  abbrev pub Spoken : ℕ → Returned → StmtTree → Type 0
  Spoken n r st = (in_arm : Bool) (others : List Kind) → is_if_else in_arm others ≡ false → Took (statement_form frame n in_arm r) (said (returned_by names scope r st) st) (stmt_tokens st others) others

  plain_level : (m : ℕ) (in_arm : Bool) (r : Returned) (one : Said StmtTree) (ts rest : List Kind) → Took (plain_form frame m r) one ts rest → Took (statement_form frame m in_arm r) one ts rest
  unfolding statement_with
  plain_level zero in_arm r one ts rest took = inr (inr (inr took))
  plain_level (suc m) in_arm r one ts rest took = inr (inr (inr took))

  change_spoken : (n : ℕ) (r : Returned) (st : StmtTree) → ChangeSpelt n st → (in_arm : Bool) (others : List Kind) → Took (statement_form frame n in_arm r) (said r st) (stmt_tokens st others) others
  change_spoken n r st spells in_arm others = plain_level n in_arm r (said r st) _ others (inr (st, others, spells _ others, (refl, refl)))

  return_spoken : (n : ℕ) (r : Returned) (e : ExprTree) → may_return scope ≡ true → fits names scope n e ≡ true → may_meet r (T e) ≡ true → Spoken n r (return_value e)
  return_spoken n r e may fit meets in_arm others free =
      plain_level n in_arm r (said (met (T e)) (return_value e)) _ others (inl
      (let whole = (spelt names scope n e fit n (within_same n)).whole in
      (tt, _, (refl, refl), (so_again (may_return scope) _ may, (sound e (T e) whole.0, _, whole.1 _ (returned_wanted r _) meets (sign mark.Semicolon others) (refl, refl), (tt, _, (refl, refl), (so_again (may_meet r (T e)) _ meets, (refl, refl))))))))

  -- Rows.

  abbrev pub AllSpoken : ℕ → Returned → StmtTrees → Type 0
  AllSpoken n r stmts_end = Unit {0}
  AllSpoken n r (stmts_more s ss) = Spoken n r s × AllSpoken n (returned_by names scope r s) ss

  free_row : (ss : StmtTrees) (in_arm : Bool) (others : List Kind) → is_if_else in_arm others ≡ false → is_if_else in_arm (stmts_tokens ss others) ≡ false
  free_row stmts_end in_arm others free = free
  free_row (stmts_more s ss) in_arm others free = no_else s in_arm (stmts_tokens ss others)

  rounds_spoken : (n : ℕ) (in_arm : Bool) (before : List StmtTree) (r : Returned) (ss : StmtTrees) → AllSpoken n r ss → (others : List Kind) → is_if_else in_arm others ≡ false
      → (j : ℕ) × Rounds (λ s. Took (Rattle.ixp_lang_stmts.specs.Statements.statement_round (statement_form frame n) in_arm s)) j (said r before) (said (returned_in names scope r ss) (before ++ row_of ss)) (stmts_tokens ss others) others
  rounds_spoken n in_arm before r stmts_end all others free = (0, inr (ap (λ xs. Rattle.ixp_lang_tokens.specs.Grammars.done (said r xs)) (append-nil before), refl))
  rounds_spoken n in_arm before r (stmts_more s ss) (one, all) others free =
      subst (λ xs. (j : ℕ) × Rounds (λ s. Took (Rattle.ixp_lang_stmts.specs.Statements.statement_round (statement_form frame n) in_arm s)) j (said r before) (said (returned_in names scope r (stmts_more s ss)) xs) (stmts_tokens (stmts_more s ss) others) others)
      (append_assoc before (s ∷ []) (row_of ss))
      (let more = rounds_spoken n in_arm (before ++ s ∷ []) (returned_by names scope r s) ss all others free in
      (suc more.0, (said (returned_by names scope r s) (before ++ s ∷ []), stmts_tokens ss others, inl (said (returned_by names scope r s) s, _, one in_arm (stmts_tokens ss others) (free_row ss in_arm others free), (refl, refl)), more.1)))

  -- the statements of a block and its end
  block_spoken : (n : ℕ) (r : Returned) (ss : StmtTrees) → AllSpoken n r ss → (others : List Kind) → Took (block_end (statement_form frame n) r) (said (returned_in names scope r ss) (row_of ss)) (stmts_tokens ss (sign mark.BlockClose others)) others
  block_spoken n r ss all others = (said (returned_in names scope r ss) (row_of ss), sign mark.BlockClose others, rounds_spoken n false [] r ss all (sign mark.BlockClose others) refl, (tt, _, (refl, refl), (refl, refl)))

  block_stmt : (n : ℕ) (r : Returned) (ss : StmtTrees) → AllSpoken n r ss → Spoken (suc n) r (block ss)
  unfolding statement_with
  block_stmt n r ss all in_arm others free =
      subst (λ xs. Took (statement_form frame (suc n) in_arm r) (said (returned_in names scope r ss) (block xs)) (stmt_tokens (block ss) others) others) (row_again ss)
      (inl (tt, _, (refl, refl), (said (returned_in names scope r ss) (row_of ss), _, block_spoken n r ss all others, (refl, refl))))

  else_spoken : (n : ℕ) (r : Returned) (e : ExprTree) (ss : List StmtTree) (ts : StmtTrees) → AllSpoken n r ts → (in_arm : Bool) (others : List Kind) → is_if_else in_arm others ≡ false
      → Took (else_form frame (inner n (statement_form frame n)) in_arm e (said r ss)) (said (returned_in names scope r ts) (if_then e (stmts ss) (stmts (row_of ts)))) (else_tokens ts others) others
  else_spoken n r e ss stmts_end all in_arm others free = inr (free, (refl, refl))
  else_spoken n r e ss (stmts_more t ts) all true others free = inl (refl, (tt, _, (refl, refl), (said (returned_in names scope r (stmts_more t ts)) (t ∷ row_of ts), others, inl (tt, _, (refl, refl), block_spoken n r (stmts_more t ts) all others), (refl, refl))))
  else_spoken n r e ss (stmts_more t ts) all false others free = inl (refl, (tt, _, (refl, refl), (said (returned_in names scope r (stmts_more t ts)) (t ∷ row_of ts), others, inl (tt, _, (refl, refl), block_spoken n r (stmts_more t ts) all others), (refl, refl))))

  test_spelt : (n : ℕ) (e : ExprTree) → is_of names scope Truth n e ≡ true → (s : ℕ) (others : List Kind) → Took (test_end (at names scope s) n) e (expr_tokens e (word (codes "then") others)) others
  test_spelt n e fit s others =
      (let h = and_parts (fits names scope n e) (same_type (T e) Truth) fit in
      let whole = (spelt names scope n e h.0 n (within_same n)).whole in
      (sound e (T e) whole.0, _, whole.1 s (one_type Truth s) h.1 (word (codes "then") others) (refl, refl), (tt, _, (refl, refl), (fits_again e (T e) Truth whole.0 s h.1, (refl, refl)))))

  if_spoken : (n : ℕ) (r : Returned) (e : ExprTree) (ss ts : StmtTrees) → is_of names scope Truth (suc n) e ≡ true → AllSpoken n r ss → AllSpoken n (returned_in names scope r ss) ts → Spoken (suc n) r (if_then e ss ts)
  unfolding statement_with
  if_spoken n r e ss ts fit all others_all in_arm others free =
      subst (λ xs. Took (statement_form frame (suc n) in_arm r) (said (returned_in names scope (returned_in names scope r ss) ts) (if_then e xs ts)) (stmt_tokens (if_then e ss ts) others) others) (row_again ss)
      (subst (λ xs. Took (statement_form frame (suc n) in_arm r) (said (returned_in names scope (returned_in names scope r ss) ts) (if_then e (stmts (row_of ss)) xs)) (stmt_tokens (if_then e ss ts) others) others) (row_again ts)
      (inr (inl (
        tt,
        _,
        (refl, refl),
        (
          e,
          _,
          test_spelt (suc n) e fit _ _,
          (said (returned_in names scope r ss) (row_of ss), _, inl (tt, _, (refl, refl), block_spoken n r ss all (else_tokens ts others)), else_spoken n (returned_in names scope r ss) e (row_of ss) ts others_all in_arm others free),
        ),
      ))))

  -- `case`.

  label_spelt : (states : Bool) (place : ℕ) (l : Label) → label_fits states l ≡ true → (rest : List Kind) → Took (label_form states place) l (label_tokens l rest) rest
  label_spelt states place (Between low high) fit rest = range_label states place low high fit (low == high) refl rest
  label_spelt states place (IsState state) fit rest = inr (state, rest, (state_again state, refl), (so_again states _ fit, (refl, refl)))

  labels_spelt : (states : Bool) (place : ℕ) (ls : List Label) → some_of ls ≡ true → list_all (label_fits states) ls ≡ true → (others : List Kind) → Took (labels_form states place) ls (list_of label_tokens ls (sign mark.Colon others)) others
  labels_spelt states place [] some fit others = absurd cc
  labels_spelt states place (l ∷ ls) some fit others =
      (l ∷ ls, sign mark.Colon others, list_spelt (λ before. label_form states place) label_tokens [] l ls (all_spell (label_form states place) label_tokens (label_fits states) (label_spelt states place) [] (l ∷ ls) fit) (sign mark.Colon others), (tt, _, (refl, refl), (refl, refl)))

  abbrev pub AllArms : ℕ → Bool → Returned → ArmTrees → Type 0
  AllArms n states r arms_end = Unit {0}
  AllArms n states r (arms_more ls ss arms) = (some_of ls ≡ true) × (list_all (label_fits states) ls ≡ true) × AllSpoken n r ss × AllArms n states (returned_in names scope r ss) arms

  free_arms : (arms : ArmTrees) (others : List Kind) → is_if_else true others ≡ false → is_if_else true (arms_tokens arms others) ≡ false
  free_arms arms_end others free = free
  free_arms (arms_more ls ss arms) others free = free_labels ls _

  arms_spoken : (n : ℕ) (states : Bool) (place : ℕ) (before : List (List Label × List StmtTree)) (r : Returned) (arms : ArmTrees) → AllArms n states r arms → (others : List Kind) → is_if_else true others ≡ false
      → (j : ℕ) × Rounds (λ s. Took (Rattle.ixp_lang_stmts.specs.Statements.arm_round (statement_form frame n) states place s)) j (said r before) (said (returned_arms names scope r arms) (before ++ arms_of arms)) (arms_tokens arms others) others
  arms_spoken n states place before r arms_end all others free = (0, inr (ap (λ xs. Rattle.ixp_lang_tokens.specs.Grammars.done (said r xs)) (append-nil before), refl))
  arms_spoken n states place before r (arms_more ls ss arms) (some, labels, row, all) others free =
      subst (λ xs. (j : ℕ) × Rounds (λ s. Took (Rattle.ixp_lang_stmts.specs.Statements.arm_round (statement_form frame n) states place s)) j (said r before) (said (returned_arms names scope r (arms_more ls ss arms)) xs) (arms_tokens (arms_more ls ss arms) others) others)
      (append_assoc before ((ls, row_of ss) ∷ []) (arms_of arms))
      (let more = arms_spoken n states place (before ++ (ls, row_of ss) ∷ []) (returned_in names scope r ss) arms all others free in (
        suc more.0,
        (
          said (returned_in names scope r ss) (before ++ (ls, row_of ss) ∷ []),
          arms_tokens arms others,
          inl (ls, _, labels_spelt states place ls some labels (stmts_tokens ss (arms_tokens arms others)), (said (returned_in names scope r ss) (row_of ss), _, rounds_spoken n true [] r ss row (arms_tokens arms others) (free_arms arms others free), (refl, refl))),
          more.1,
        ),
      ))

  end_spoken : (n : ℕ) (r : Returned) (ts : StmtTrees) → AllSpoken n r ts → (others : List Kind) → Took (case_end (statement_form frame n) r) (said (returned_in names scope r ts) (row_of ts)) (other_tokens ts (sign mark.BlockClose others)) others
  end_spoken n r stmts_end all others = inr (tt, _, (refl, refl), (refl, refl))
  end_spoken n r (stmts_more t ts) all others = inl (tt, _, (refl, refl), (tt, _, (refl, refl), block_spoken n r (stmts_more t ts) all others))

  case_spoken : (n : ℕ) (r : Returned) (e : ExprTree) (arms : ArmTrees) (ts : StmtTrees) → (same_type (T e) Int || same_type (T e) State) ≡ true → fits names scope n e ≡ true → AllArms n (is_state (T e)) r arms
      → AllSpoken n (returned_arms names scope r arms) ts → Spoken (suc n) r (case_of e arms ts)
  unfolding statement_with
  case_spoken n r e arms ts about fit all others_all in_arm others free =
      subst (λ xs. Took (statement_form frame (suc n) in_arm r) (said (returned_in names scope (returned_arms names scope r arms) ts) (case_of e xs ts)) (stmt_tokens (case_of e arms ts) others) others) (arms_again arms)
      (subst (λ xs. Took (statement_form frame (suc n) in_arm r) (said (returned_in names scope (returned_arms names scope r arms) ts) (case_of e (made_arms (arms_of arms)) xs)) (stmt_tokens (case_of e arms ts) others) others) (row_again ts)
      (inr (inr (inl (
        tt,
        _,
        (refl, refl),
        (
          record { on = e; is_of_states = is_state (T e) },
          _,
          (let whole = (spelt names scope n e fit n (within_same n)).whole in (sound e (T e) whole.0, _, whole.1 _ (subject_wanted _) about (sign mark.BlockOpen _) (refl, refl), (tt, _, (refl, refl), (so_again (same_type (T e) Int || same_type (T e) State) _ about, (refl, refl))))),
          (
            said (returned_arms names scope r arms) (arms_of arms),
            _,
            arms_spoken n (is_state (T e)) _ [] r arms all (other_tokens ts (sign mark.BlockClose others)) (free_other ts others),
            (said (returned_in names scope (returned_arms names scope r arms) ts) (row_of ts), _, end_spoken n (returned_arms names scope r arms) ts others_all others, (refl, refl)),
          ),
        ),
      )))))

  -- All.

  mutual
    pub spoken : (n : ℕ) (r : Returned) (st : StmtTree) → stmt_fits names scope n r st ≡ true → Spoken n r st
    spoken zero r (block ss) fit = absurd cc
    spoken (suc n) r (block ss) fit = block_stmt n r ss (all_spoken n r ss fit)
    spoken zero r (if_then e ss ts) fit = absurd (let h : false ≡ true = (and_parts (is_of names scope Truth 0 e) false fit).1 in let f : ⊥ = cc in f)
    spoken (suc n) r (if_then e ss ts) fit =
        (let h = and_parts (is_of names scope Truth (suc n) e) (stmts_fit names scope n r ss && stmts_fit names scope n (returned_in names scope r ss) ts) fit in
        let k = and_parts (stmts_fit names scope n r ss) (stmts_fit names scope n (returned_in names scope r ss) ts) h.1 in
        if_spoken n r e ss ts h.0 (all_spoken n r ss k.0) (all_spoken n (returned_in names scope r ss) ts k.1))
    spoken zero r (case_of e arms ts) fit = absurd (let h : false ≡ true = (and_parts (same_type (T e) Int || same_type (T e) State) false fit).1 in let f : ⊥ = cc in f)
    spoken (suc n) r (case_of e arms ts) fit =
        (let h = and_parts (same_type (T e) Int || same_type (T e) State) (fits names scope n e && arms_fit names scope n (is_state (T e)) r arms && stmts_fit names scope n (returned_arms names scope r arms) ts) fit in
        let k = and3 (fits names scope n e) (arms_fit names scope n (is_state (T e)) r arms) (stmts_fit names scope n (returned_arms names scope r arms) ts) h.1 in
        case_spoken n r e arms ts h.0 k.0 (all_arms n (is_state (T e)) r arms k.1) (all_spoken n (returned_arms names scope r arms) ts k.2))
    spoken n r (return_value e) fit =
        (let h = and3 (may_return scope) (fits names scope n e) (may_meet r (T e)) fit in return_spoken n r e h.0 h.1 h.2)
    spoken n r accept fit = λ in_arm others free. change_spoken n r accept (accept_spelt n) in_arm others
    spoken n r reject fit = λ in_arm others free. change_spoken n r reject (reject_spelt n) in_arm others
    spoken n r (call_statement x es) fit = λ in_arm others free.
        (let h = and_parts (is_some (function_of (names x))) _ fit in change_spoken n r (call_statement x es) (call_spelt n x es (function_of (names x)) refl h.0 h.1) in_arm others)
    spoken n r (set_next_hop e) fit = λ in_arm others free. change_spoken n r (set_next_hop e) (next_hop_spelt n e fit) in_arm others
    spoken n r (prepend e) fit = λ in_arm others free. change_spoken n r (prepend e) (prepend_spelt n e fit) in_arm others
    spoken n r (add_pair e) fit = λ in_arm others free. change_spoken n r (add_pair e) (add_pair_spelt n e fit) in_arm others
    spoken n r (delete_pairs e) fit = λ in_arm others free. change_spoken n r (delete_pairs e) (delete_pairs_spelt n e fit) in_arm others
    spoken n r (add_triple e) fit = λ in_arm others free. change_spoken n r (add_triple e) (add_triple_spelt n e fit) in_arm others
    spoken n r (delete_triples e) fit = λ in_arm others free. change_spoken n r (delete_triples e) (delete_triples_spelt n e fit) in_arm others

    pub all_spoken : (n : ℕ) (r : Returned) (ss : StmtTrees) → stmts_fit names scope n r ss ≡ true → AllSpoken n r ss
    all_spoken n r stmts_end fit = tt
    all_spoken n r (stmts_more s ss) fit =
        (let h = and_parts (stmt_fits names scope n r s) (stmts_fit names scope n (returned_by names scope r s) ss) fit in (spoken n r s h.0, all_spoken n (returned_by names scope r s) ss h.1))

    pub all_arms : (n : ℕ) (states : Bool) (r : Returned) (arms : ArmTrees) → arms_fit names scope n states r arms ≡ true → AllArms n states r arms
    all_arms n states r arms_end fit = tt
    all_arms n states r (arms_more ls ss arms) fit =
        (let h = and3 (some_of ls && list_all (label_fits states) ls) (stmts_fit names scope n r ss) (arms_fit names scope n states (returned_in names scope r ss) arms) fit in
        let k = and_parts (some_of ls) (list_all (label_fits states) ls) h.0 in
        (k.0, k.1, all_spoken n r ss h.1, all_arms n states (returned_in names scope r ss) arms h.2))

  -- a body and its end
  pub body_spoken : (n : ℕ) (r : Returned) (ss : StmtTrees) → stmts_fit names scope n r ss ≡ true → (others : List Kind)
      → Took (body_form frame n r) (said (returned_in names scope r ss) (row_of ss)) (stmts_tokens ss (sign mark.BlockClose others)) others
  body_spoken n r ss fit others = block_spoken n r ss (all_spoken n r ss fit) others
