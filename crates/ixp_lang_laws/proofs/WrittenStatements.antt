-- What written tokens say of statements is written again.
use Rattle.std.proofs.Common.{ℕ, zero, suc, Bool, true, false, List, [], ◌∷◌, codes}
use Rattle.ixp_lang.specs.Trees.{ExprTree, StmtTree, block, if_then, case_of, add_pair, delete_pairs, add_triple, delete_triples, stmts}
use Rattle.ixp_lang.specs.declared.stmt.Label.{Label}
use Rattle.ixp_lang_tokens.specs.declared.token.Mark.TheVariants as mark
use Rattle.ixp_lang_exprs.specs.declared.types.ValueType.{ValueType}
use Rattle.ixp_lang_exprs.specs.declared.types.ValueType.TheVariants.{Int, Bool as Truth, Ip, Pair, Triple, PairSet, TripleSet}
use Rattle.ixp_lang_exprs.specs.Names.{function_of}
use Rattle.ixp_lang_exprs.specs.Operands.{one_type}
use Rattle.ixp_lang_exprs.specs.Expressions.{Place, arguments, expression_form}
use Rattle.ixp_lang_stmts.specs.Statements.{Frame, place_in, Returned, returned_wanted, subject_wanted, Said, value_end, enclosed_end, params_of, call_form, return_form, next_hop_end, prepend_end, change_end, change_form, plain_form, label_form, labels_form, Statements, statements_of, block_end, Deeper, nothing, deeper, block_form, no_branch, branch_form, else_form, test_end, if_form, Arms, arms, arms_form, case_end, Subject, subject_end, case_form, statement_with, statement_form, body_form}
use Rattle.ixp_lang_laws.specs.Canonical.{sign}
use Rattle.ixp_lang_laws.specs.CanonicalItems.{label_tokens, change_tokens, stmt_tokens, stmts_tokens, else_tokens, other_tokens, arms_tokens, body_tokens}
use Rattle.ixp_lang_laws.proofs.Keeping.{Keeps, keeps_gives, keeps_token, keeps_sequence, keeps_then, keeps_choice, keeps_checks, keeps_bars, keeps_unless, keeps_here, keeps_rounds, keeps_mark, keeps_word, keeps_never, keeps_ended, keeps_number, keeps_name, AreAll, all_more, keeps_listed, Writes, list_writes}
use Rattle.ixp_lang_laws.proofs.WrittenSets.{NumbersFit, range_writes}
use Rattle.ixp_lang_laws.proofs.WrittenExpressions.{IsExpr, exprs_write, keeps_expression, keeps_enclosed}

abbrev pub IsStmt : StmtTree → Type 0
IsStmt s = Writes (stmt_tokens s)

abbrev IsSaid : Said StmtTree → Type 0
IsSaid s = IsStmt s.it

abbrev pub AreSaid : Said (List StmtTree) → Type 0
AreSaid s = AreAll IsStmt s.it

-- Trees from their parts.

pub stmts_write : (ss : List StmtTree) → AreAll IsStmt ss → Writes (stmts_tokens (stmts ss))
stmts_write [] all rest written = written
stmts_write (s ∷ ss) (one, all) rest written = one (stmts_tokens (stmts ss) rest) (stmts_write ss all rest written)

pub body_writes : (ss : List StmtTree) → AreAll IsStmt ss → Writes (body_tokens (stmts ss))
body_writes ss all rest written = (tt, stmts_write ss all (sign mark.BlockClose rest) (tt, written))

else_writes : (ss : List StmtTree) → AreAll IsStmt ss → Writes (else_tokens (stmts ss))
else_writes [] all rest written = written
else_writes (s ∷ ss) all rest written = (tt, body_writes (s ∷ ss) all rest written)

other_writes : (ss : List StmtTree) → AreAll IsStmt ss → Writes (other_tokens (stmts ss))
other_writes [] all rest written = written
other_writes (s ∷ ss) all rest written = (tt, (tt, stmts_write (s ∷ ss) all rest written))

block_is : (ss : List StmtTree) → AreAll IsStmt ss → IsStmt (block (stmts ss))
block_is ss all rest written = body_writes ss all rest written

if_is : (e : ExprTree) (ss ts : List StmtTree) → IsExpr e → AreAll IsStmt ss → AreAll IsStmt ts → IsStmt (if_then e (stmts ss) (stmts ts))
if_is e ss ts test one two rest written = (tt, test _ (tt, body_writes ss one (else_tokens (stmts ts) rest) (else_writes ts two rest written)))

-- Statements that hold no others.

module _ (at : Place) (fit : NumbersFit at.names) (levels : ℕ) where
  keeps_value_end : (wanted : ValueType) → Keeps (value_end at levels wanted) IsExpr
  keeps_value_end wanted = keeps_sequence (keeps_expression at fit levels (one_type wanted at.statement)) (λ o is. keeps_then (keeps_mark mark.Semicolon) (λ x. keeps_checks (keeps_gives is)))

  keeps_enclosed_end : (wanted : ValueType) → Keeps (enclosed_end at levels wanted) IsExpr
  keeps_enclosed_end wanted =
      keeps_then (keeps_mark mark.Open) (λ x.
      keeps_sequence (keeps_expression at fit levels (one_type wanted at.statement)) (λ o is. keeps_then (keeps_mark mark.Close) (λ y. keeps_checks (keeps_ended mark.Semicolon is))))

  keeps_call : Keeps (call_form at levels) IsStmt
  keeps_call =
      keeps_sequence keeps_name (λ n is.
      keeps_checks
      (keeps_then (keeps_mark mark.Open) (λ x.
      keeps_sequence (keeps_enclosed (expression_form at levels) (keeps_expression at fit levels) at (arguments (params_of (function_of (at.names n)))) at.statement) (λ parts all.
      keeps_ended mark.Semicolon (λ rest written. (is, (tt, exprs_write parts.trees all _ (tt, (tt, written)))))))))

  keeps_return : (returned : Returned) → Keeps (return_form at levels returned) IsSaid
  keeps_return returned =
      keeps_then (keeps_word _) (λ x.
      keeps_checks
      (keeps_sequence (keeps_expression at fit levels (returned_wanted returned at.statement)) (λ o is.
      keeps_then (keeps_mark mark.Semicolon) (λ y. keeps_checks (keeps_gives (λ rest written. (tt, is _ (tt, written))))))))

  keeps_next_hop : Keeps (next_hop_end at levels) IsStmt
  keeps_next_hop =
      keeps_then (keeps_mark mark.Equal) (λ x. keeps_sequence (keeps_value_end Ip) (λ e is. keeps_gives (λ rest written. (tt, (tt, is _ (tt, written))))))

  keeps_prepend : Keeps (prepend_end at levels) IsStmt
  keeps_prepend =
      keeps_then (keeps_mark mark.Dot) (λ x.
      keeps_then (keeps_word _) (λ y. keeps_sequence (keeps_enclosed_end Int) (λ e is. keeps_gives (λ rest written. (tt, (tt, (tt, (tt, is _ (tt, (tt, written))))))))))

  keeps_change_end : (one : ValueType) (add : ExprTree → StmtTree) (many : ValueType) (delete : ExprTree → StmtTree)
      → ((e : ExprTree) → IsExpr e → IsStmt (add e)) → ((e : ExprTree) → IsExpr e → IsStmt (delete e)) → Keeps (change_end at levels one add many delete) IsStmt
  keeps_change_end one add many delete adds deletes =
      keeps_then (keeps_mark mark.Dot) (λ x.
      keeps_choice (keeps_then (keeps_word _) (λ y. keeps_sequence (keeps_enclosed_end one) (λ e is. keeps_gives (adds e is))))
      (keeps_then (keeps_word _) (λ y. keeps_sequence (keeps_enclosed_end many) (λ e is. keeps_gives (deletes e is)))))

  change_is : (list change : List ℕ) (e : ExprTree) → IsExpr e → Writes (change_tokens list change e)
  change_is list change e is rest written = (tt, (tt, (tt, (tt, is _ (tt, (tt, written))))))

  keeps_change : Keeps (change_form at levels) IsStmt
  unfolding change_form
  keeps_change =
      keeps_choice keeps_call
      (keeps_choice (keeps_then (keeps_word _) (λ x. keeps_next_hop))
      (keeps_choice (keeps_then (keeps_word _) (λ x. keeps_prepend))
      (keeps_choice (keeps_then (keeps_word _) (λ x. keeps_change_end Pair add_pair PairSet delete_pairs (change_is (codes "bgp_community") (codes "add")) (change_is (codes "bgp_community") (codes "delete"))))
      (keeps_choice (keeps_then (keeps_word _) (λ x. keeps_change_end Triple add_triple TripleSet delete_triples (change_is (codes "bgp_large_community") (codes "add")) (change_is (codes "bgp_large_community") (codes "delete"))))
      (keeps_choice (keeps_then (keeps_word _) (λ x. keeps_ended mark.Semicolon (λ rest written. (tt, (tt, written)))))
      (keeps_then (keeps_word _) (λ x. keeps_ended mark.Semicolon (λ rest written. (tt, (tt, written))))))))))

keeps_plain : (frame : Frame) → NumbersFit frame.names → (levels : ℕ) (returned : Returned) → Keeps (plain_form frame levels returned) IsSaid
keeps_plain frame fit levels returned =
    keeps_here (λ statement.
    keeps_choice (keeps_return (place_in frame statement) fit levels returned) (keeps_sequence (keeps_change (place_in frame statement) fit levels) (λ change is. keeps_gives is)))

-- Labels.

abbrev IsLabel : Label → Type 0
IsLabel l = Writes (label_tokens l)

keeps_label : (is_of_states : Bool) (place : ℕ) → Keeps (label_form is_of_states place) IsLabel
keeps_label is_of_states place =
    keeps_choice
    (keeps_sequence keeps_number (λ low one.
    keeps_checks
    (keeps_choice (keeps_then (keeps_mark mark.Range) (λ x. keeps_sequence keeps_number (λ high two. keeps_gives (range_writes low high one two)))) (keeps_gives (range_writes low low one one)))))
    (keeps_then (keeps_token _) (λ state. keeps_checks (keeps_gives (λ rest written. (tt, written)))))

keeps_labels : (is_of_states : Bool) (place : ℕ) → Keeps (labels_form is_of_states place) (AreAll IsLabel)
keeps_labels is_of_states place = keeps_sequence (keeps_listed (λ before. keeps_label is_of_states place)) (λ labels all. keeps_ended mark.Colon all)

-- Statements that hold others.

abbrev IsKept : Statements → Type 0
IsKept statement = (in_arm : Bool) (returned : Returned) → Keeps (statement in_arm returned) IsSaid

abbrev IsArm : List Label × List StmtTree → Type 0
IsArm a = AreAll IsLabel a.0 × AreAll IsStmt a.1

abbrev AreArms : Arms → Type 0
AreArms a = AreAll IsArm a.it

arms_write : (some_arms : List (List Label × List StmtTree)) → AreAll IsArm some_arms → Writes (arms_tokens (arms some_arms))
arms_write [] all rest written = written
arms_write (a ∷ others) ((labels, body), all) rest written = list_writes label_tokens a.0 labels _ (tt, stmts_write a.1 body _ (arms_write others all rest written))

module _ (statement : Statements) (k : IsKept statement) where
  keeps_statements : (in_arm : Bool) (returned : Returned) → Keeps (statements_of statement in_arm returned) AreSaid
  keeps_statements in_arm returned =
      keeps_rounds AreSaid tt (λ before all.
      keeps_choice (keeps_sequence (k in_arm before.returned) (λ one is. keeps_gives (all_more IsStmt before.it one.it all is))) (keeps_gives all))

  keeps_block_end : (returned : Returned) → Keeps (block_end statement returned) AreSaid
  keeps_block_end returned = keeps_sequence (keeps_statements false returned) (λ body all. keeps_ended mark.BlockClose all)

  keeps_arms : (is_of_states : Bool) (place : ℕ) (returned : Returned) → Keeps (arms_form statement is_of_states place returned) AreArms
  keeps_arms is_of_states place returned =
      keeps_rounds AreArms tt (λ before all.
      keeps_choice
      (keeps_sequence (keeps_labels is_of_states place) (λ labels one.
      keeps_sequence (keeps_statements true before.returned) (λ body two. keeps_gives (all_more IsArm before.it (labels, body.it) all (one, two)))))
      (keeps_gives all))

  keeps_case_end : (returned : Returned) → Keeps (case_end statement returned) AreSaid
  keeps_case_end returned =
      keeps_choice (keeps_then (keeps_word _) (λ x. keeps_then (keeps_mark mark.Colon) (λ y. keeps_block_end returned))) (keeps_ended mark.BlockClose tt)

abbrev KeepsBelow : Deeper → Type 0
KeepsBelow nothing = Unit {0}
KeepsBelow (deeper levels statement) = IsKept statement

keeps_no_branch : {A : Type 0} {P : A → Type 0} (frame : Frame) → Keeps (no_branch frame) P
keeps_no_branch frame =
    keeps_bars
    (keeps_choice (keeps_here (λ place. keeps_sequence keeps_name (λ n is. keeps_checks keeps_never))) (keeps_here (λ place. keeps_then (keeps_token _) (λ w. keeps_checks keeps_never))))

module _ (frame : Frame) (fit : NumbersFit frame.names) (levels : ℕ) (inner : Deeper) where
  keeps_block : KeepsBelow inner → (returned : Returned) → Keeps (block_form inner returned) IsSaid
  keeps_block k returned = by_case inner k
    where
      by_case : (i : Deeper) → KeepsBelow i → Keeps (block_form i returned) IsSaid
      by_case (deeper l statement) below =
          keeps_then (keeps_mark mark.BlockOpen) (λ x. keeps_sequence (keeps_block_end statement below returned) (λ body all. keeps_gives (block_is body.it all)))
      by_case nothing below = keeps_bars keeps_never

  keeps_branch : KeepsBelow inner → (in_arm : Bool) (returned : Returned) → Keeps (branch_form frame inner in_arm returned) AreSaid
  keeps_branch k in_arm returned = by_case inner k
    where
      by_case : (i : Deeper) → KeepsBelow i → Keeps (branch_form frame i in_arm returned) AreSaid
      by_case (deeper l statement) below =
          keeps_choice (keeps_then (keeps_mark mark.BlockOpen) (λ x. keeps_block_end statement below returned))
          (keeps_unless (keeps_sequence (below in_arm returned) (λ one is. keeps_gives (is, tt))))
      by_case nothing below = keeps_no_branch frame

  keeps_else : KeepsBelow inner → (in_arm : Bool) (test : ExprTree) (then_do : Said (List StmtTree)) → IsExpr test → AreSaid then_do → Keeps (else_form frame inner in_arm test then_do) IsSaid
  keeps_else k in_arm test then_do is all =
      keeps_choice
      (keeps_unless (keeps_then (keeps_word _) (λ x. keeps_sequence (keeps_branch k in_arm then_do.returned) (λ else_do others. keeps_gives (if_is test then_do.it else_do.it is all others)))))
      (keeps_unless (keeps_gives (if_is test then_do.it [] is all tt)))

  keeps_test : (statement : ℕ) → Keeps (test_end (place_in frame statement) levels) IsExpr
  keeps_test statement = keeps_sequence (keeps_expression (place_in frame statement) fit levels (one_type Truth statement)) (λ o is. keeps_then (keeps_word _) (λ x. keeps_checks (keeps_gives is)))

  keeps_if : KeepsBelow inner → (in_arm : Bool) (returned : Returned) → Keeps (if_form frame levels inner in_arm returned) IsSaid
  keeps_if k in_arm returned =
      keeps_here (λ statement.
      keeps_then (keeps_word _) (λ x.
      keeps_sequence (keeps_test statement) (λ test is. keeps_sequence (keeps_branch k in_arm returned) (λ then_do all. keeps_else k in_arm test then_do is all))))

  abbrev IsSubject : Subject → Type 0
  IsSubject s = IsExpr s.on

  keeps_subject : (at : Place) → NumbersFit at.names → (l : ℕ) → Keeps (subject_end at l) IsSubject
  keeps_subject at fits l = keeps_sequence (keeps_expression at fits l (subject_wanted at.statement)) (λ o is. keeps_then (keeps_mark mark.BlockOpen) (λ x. keeps_checks (keeps_gives is)))

  keeps_case : KeepsBelow inner → (returned : Returned) → Keeps (case_form frame inner returned) IsSaid
  keeps_case k returned = by_case inner k
    where
      case_is : (e : ExprTree) (some_arms : List (List Label × List StmtTree)) (other : List StmtTree) → IsExpr e → AreAll IsArm some_arms → AreAll IsStmt other → IsStmt (case_of e (arms some_arms) (stmts other))
      case_is e some_arms other is all others rest written = (tt, is _ (tt, arms_write some_arms all _ (other_writes other others _ (tt, written))))

      by_case : (i : Deeper) → KeepsBelow i → Keeps (case_form frame i returned) IsSaid
      by_case (deeper l statement) below =
          keeps_here (λ place.
          keeps_then (keeps_word _) (λ x.
          keeps_sequence (keeps_subject (place_in frame place) fit l) (λ subject is.
          keeps_sequence (keeps_arms statement below subject.is_of_states place returned) (λ some_arms all.
          keeps_sequence (keeps_case_end statement below some_arms.returned) (λ other others. keeps_gives (case_is subject.on some_arms.it other.it is all others))))))
      by_case nothing below = keeps_bars keeps_never

  keeps_statement_with : KeepsBelow inner → IsKept (statement_with frame levels inner)
  unfolding statement_with
  keeps_statement_with k in_arm returned =
      keeps_choice (keeps_block k returned) (keeps_choice (keeps_if k in_arm returned) (keeps_choice (keeps_case k returned) (keeps_plain frame fit levels returned)))

keeps_statement : (frame : Frame) → NumbersFit frame.names → (levels : ℕ) → IsKept (statement_form frame levels)
keeps_statement frame fit zero = keeps_statement_with frame fit zero nothing tt
keeps_statement frame fit (suc levels) = keeps_statement_with frame fit (suc levels) (deeper levels (statement_form frame levels)) (keeps_statement frame fit levels)

-- what written tokens say as the statements of a block is written again
pub keeps_body : (frame : Frame) → NumbersFit frame.names → (levels : ℕ) (returned : Returned) → Keeps (body_form frame levels returned) AreSaid
keeps_body frame fit levels returned = keeps_block_end (statement_form frame levels) (keeps_statement frame fit levels) returned
