-- What is known of the grammar of statements.
use Rattle.std.proofs.Common.{◌≡◌, ℕ, zero, suc, Bool, true, false, not, ◌&&◌, ◌||◌, List, [], ◌∷◌, ◌++◌, codes, Some, None, refl, ap, if◌then◌else◌}
use Rattle.std.specs.Option.{is_some}
use Rattle.std.proofs.lemmas.Bool.{and_parts, and_from}
use Rattle.ixp_lang.specs.Trees.{StmtTree, ExprTree, accept, reject, add_pair, delete_pairs, add_triple, delete_triples}
use Rattle.ixp_lang_tokens.specs.declared.token.Kind.{Kind}
use Rattle.ixp_lang_tokens.specs.declared.token.Kind.TheVariants as kind
use Rattle.ixp_lang_tokens.specs.declared.token.Mark.TheVariants as mark
use Rattle.ixp_lang_tokens.specs.Grammars.{takes, rounds}
use Rattle.ixp_lang_tokens.specs.Pieces.{is_mark, is_word, the_word, same_word, is_next}
use Rattle.ixp_lang_tokens.specs.declared.fault.Cause.TheVariants.{Deep}
use Rattle.ixp_lang_tokens.proofs.Clear.{IsSeen, MayOpen}
use Rattle.ixp_lang_tokens.proofs.Fronts.{Front, marked, keyword, name, number, is_front, one_of, Starts, or_elim, or_left}
use Rattle.ixp_lang_tokens.proofs.Looks.{Look, full_look, token_look}
use Rattle.ixp_lang_tokens.proofs.ClearLooks.{clear_gives, clear_takes, clear_token, clear_mark, clear_name, clear_number, clear_sequence, clear_then, clear_choice, clear_checks, clear_here, clear_bars, clear_unless, clear_wider, first_test as first_asks}
use Rattle.ixp_lang_tokens.proofs.Known.{so_is, next_mark}
use Rattle.ixp_lang_exprs.specs.declared.types.ValueType.{ValueType}
use Rattle.ixp_lang_exprs.specs.declared.types.ValueType.TheVariants.{Int, Bool as Truth, Ip, Pair, Triple, PairSet, TripleSet}
use Rattle.ixp_lang_exprs.specs.Names.{function_of}
use Rattle.ixp_lang_exprs.specs.Expressions.{Place, arguments, word_in}
use Rattle.ixp_lang_exprs.proofs.ClearLists.{clear_never, clear_ended, clear_listed}
use Rattle.ixp_lang_exprs.proofs.KnownTokens.{states, known_state, word_front}
use Rattle.ixp_lang_exprs.proofs.KnownExpressions.{operand_starts, clear_expression_text}
use Rattle.ixp_lang_exprs.proofs.Sure.{Barred, Sure, First, behind_else, sure_of, clear_word, first_enclosed, sure_deep, next_word, next_seen}
use Rattle.ixp_lang_exprs.specs.Operands.{one_type}
use Rattle.ixp_lang_stmts.specs.Statements.{Frame, place_in, Returned, returned_wanted, subject_wanted, Said, said, value_end, enclosed_end, params_of, call_end, call_form, return_form, next_hop_end, prepend_end, change_end, verdict_form, change_form, plain_form, number_label, state_label, label_form, labels_form, Statements, statements_of, block_end, Deeper, nothing, deeper, is_block, is_else, is_case_else, is_if_else, is_there, block_form, statement_word, no_branch, branch_form, else_form, test_end, if_form, Arms, arms_form, case_end, subject_end, case_form, statement_with, statement_form, body_form}
use Rattle.ixp_lang_stmts.proofs.Pieces.{said_one, one_more, one_arm, next_arm}
use Rattle.ixp_lang_stmts.proofs.Several.{clear_without, clear_or_nothing, clear_several}

-- Statements that hold no others.

first_value_end : (at : Place) (levels : ℕ) (wanted : ValueType) → First (value_end at levels wanted) (token_look operand_starts)
first_value_end at levels wanted = clear_sequence (clear_expression_text at levels (one_type wanted at.statement)) (λ value. clear_then (clear_mark mark.Semicolon) (λ x. clear_checks (clear_gives _))) refl

first_enclosed_end : (at : Place) (levels : ℕ) (wanted : ValueType) → First (enclosed_end at levels wanted) (token_look (marked mark.Open ∷ []))
first_enclosed_end at levels wanted =
    clear_then (clear_mark mark.Open) (λ x.
    clear_sequence (clear_expression_text at levels (one_type wanted at.statement)) (λ value. clear_then (clear_mark mark.Close) (λ y. clear_checks (clear_ended mark.Semicolon _))) refl)

first_call_end : (at : Place) (levels : ℕ) (called : List ℕ) → First (call_end at levels called) (token_look (marked mark.Open ∷ []))
first_call_end at levels called =
    clear_then (clear_mark mark.Open) (λ x.
    clear_then (first_enclosed at levels at (arguments (params_of (function_of (at.names called)))) at.statement)
    (λ parts. clear_ended mark.Semicolon _))

first_call : (at : Place) (levels : ℕ) → First (call_form at levels) (token_look (name ∷ []))
first_call at levels = clear_then clear_name (λ called. clear_checks (first_call_end at levels called))

first_return : (at : Place) (levels : ℕ) (returned : Returned) → First (return_form at levels returned) (token_look (keyword (codes "return") ∷ []))
first_return at levels returned =
    clear_then (clear_word (codes "return")) (λ x.
    clear_checks (clear_sequence (clear_expression_text at levels (returned_wanted returned at.statement)) (λ value. clear_then (clear_mark mark.Semicolon) (λ y. clear_checks (clear_gives _))) refl))

first_next_hop : (at : Place) (levels : ℕ) → First (next_hop_end at levels) (token_look (marked mark.Equal ∷ []))
first_next_hop at levels = clear_then (clear_mark mark.Equal) (λ x. clear_then (first_value_end at levels Ip) (λ value. clear_gives _))

first_prepend : (at : Place) (levels : ℕ) → First (prepend_end at levels) (token_look (marked mark.Dot ∷ []))
first_prepend at levels =
    clear_then (clear_mark mark.Dot) (λ x. clear_then (clear_word (codes "prepend")) (λ y. clear_then (first_enclosed_end at levels Int) (λ value. clear_gives _)))

first_change_end : (at : Place) (levels : ℕ) (one : ValueType) (add : ExprTree → StmtTree) (many : ValueType) (delete : ExprTree → StmtTree)
    → First (change_end at levels one add many delete) (token_look (marked mark.Dot ∷ []))
first_change_end at levels one add many delete =
    clear_then (clear_mark mark.Dot) (λ x.
    clear_choice (clear_then (clear_word (codes "add")) (λ y. clear_then (first_enclosed_end at levels one) (λ value. clear_gives _)))
    (clear_then (clear_word (codes "delete")) (λ y. clear_then (first_enclosed_end at levels many) (λ value. clear_gives _))) refl refl)

first_verdict : (word : List ℕ) (verdict : StmtTree) → First (verdict_form word verdict) (token_look (keyword word ∷ []))
first_verdict word verdict = clear_then (clear_word word) (λ x. clear_ended mark.Semicolon _)

abbrev pub change_words : List Front
change_words =
    keyword (codes "bgp_next_hop") ∷ keyword (codes "bgp_path") ∷ keyword (codes "bgp_community") ∷ keyword (codes "bgp_large_community")
    ∷ keyword (codes "accept") ∷ keyword (codes "reject") ∷ []

first_change : (at : Place) (levels : ℕ) → First (change_form at levels) (token_look (name ∷ change_words))
unfolding change_form
first_change at levels =
    clear_wider
    (clear_choice (first_call at levels)
    (clear_choice (clear_then (clear_word (codes "bgp_next_hop")) (λ x. first_next_hop at levels))
    (clear_choice (clear_then (clear_word (codes "bgp_path")) (λ x. first_prepend at levels))
    (clear_choice (clear_then (clear_word (codes "bgp_community")) (λ x. first_change_end at levels Pair add_pair PairSet delete_pairs))
    (clear_choice (clear_then (clear_word (codes "bgp_large_community")) (λ x. first_change_end at levels Triple add_triple TripleSet delete_triples))
    (clear_choice (first_verdict (codes "accept") accept) (first_verdict (codes "reject") reject)
    refl refl) refl refl) refl refl) refl refl) refl refl) refl refl)
    refl refl

-- the words with which statements begin that hold no others
abbrev pub plain_words : List Front
plain_words = keyword (codes "return") ∷ change_words

pub first_plain : (frame : Frame) (levels : ℕ) (returned : Returned) → First (plain_form frame levels returned) (token_look (name ∷ plain_words))
first_plain frame levels returned =
    clear_wider
    (clear_here (λ statement.
    clear_choice (first_return (place_in frame statement) levels returned) (clear_then (first_change (place_in frame statement) levels) (λ change. clear_gives _)) refl refl))
    refl refl

-- Labels.

abbrev pub label_starts : List Front
label_starts = number ∷ states

first_number_label : (is_of_states : Bool) (place : ℕ) → First (number_label is_of_states place) (full_look (number ∷ []) (marked mark.Range ∷ []))
first_number_label is_of_states place =
    clear_then clear_number (λ low. clear_checks (clear_choice (clear_then (clear_mark mark.Range) (λ x. clear_then clear_number (λ high. clear_gives _))) (clear_gives _) refl refl))

first_state_label : (is_of_states : Bool) (place : ℕ) → First (state_label is_of_states place) (token_look states)
first_state_label is_of_states place = clear_then (clear_token _ _ known_state) (λ state. clear_checks (clear_gives _))

first_label : (is_of_states : Bool) (place : ℕ) → First (label_form is_of_states place) (full_look label_starts (marked mark.Range ∷ []))
first_label is_of_states place = clear_choice (first_number_label is_of_states place) (first_state_label is_of_states place) refl refl

pub first_labels : (is_of_states : Bool) (place : ℕ) → First (labels_form is_of_states place) (token_look label_starts)
first_labels is_of_states place =
    clear_sequence
    (clear_listed (λ before. label_form is_of_states place) label_starts (marked mark.Range ∷ []) [] (λ items. first_label is_of_states place) refl)
    (λ labels. clear_ended mark.Colon labels) refl

-- Statements that hold others.

-- what a statement may begin with, but a brace
abbrev brace_less : List Front
brace_less = name ∷ keyword (codes "if") ∷ keyword (codes "case") ∷ plain_words

abbrev pub statement_starts : List Front
statement_starts = marked mark.BlockOpen ∷ brace_less

-- what may not stand behind an `if`
abbrev pub else_word : List Front
else_word = keyword (codes "else") ∷ []

abbrev pub IsSureStatement : Statements → Type 0
IsSureStatement statement = (in_arm : Bool) (returned : Returned) → Barred (statement in_arm returned) (token_look statement_starts) else_word

module _ (statement : Statements) (ks : IsSureStatement statement) where
  -- the statements behind these
  pub sure_more : (in_arm : Bool) (before : Said (List StmtTree)) → Barred (rounds (one_more statement in_arm) before) (record { leads = false; full = false; starts = statement_starts; ends = statement_starts }) else_word
  sure_more in_arm before =
      clear_several (said_one statement in_arm) (λ before. before) statement_starts [] else_word (λ before. clear_sequence (ks in_arm before.returned) (λ one. clear_gives _) refl) refl before

  pub sure_statements : (in_arm : Bool) (returned : Returned) → Barred (statements_of statement in_arm returned) (record { leads = false; full = false; starts = statement_starts; ends = statement_starts }) else_word
  sure_statements in_arm returned = sure_more in_arm (said returned [])

  pub sure_block_end : (returned : Returned)
      → Sure (block_end statement returned) (record { leads = false; full = true; starts = statement_starts ++ marked mark.BlockClose ∷ []; ends = [] })
  sure_block_end returned = clear_sequence (sure_statements false returned) (λ body. clear_ended mark.BlockClose body) refl

  abbrev pub arms_look : Look
  arms_look = record { leads = false; full = false; starts = label_starts; ends = statement_starts ++ label_starts }

  -- the arms behind these
  pub sure_more_arms : (is_of_states : Bool) (place : ℕ) (before : Arms) → Barred (rounds (next_arm statement is_of_states place) before) arms_look else_word
  sure_more_arms is_of_states place before =
      clear_wider
      (clear_several (one_arm statement is_of_states place) (λ before. before) label_starts statement_starts else_word
      (λ before. clear_then (sure_of (first_labels is_of_states place)) (λ labels. clear_sequence (sure_statements true before.returned) (λ body. clear_gives _) refl)) refl before)
      refl refl

  pub sure_arms : (is_of_states : Bool) (place : ℕ) (returned : Returned) → Barred (arms_form statement is_of_states place returned) arms_look else_word
  sure_arms is_of_states place returned = sure_more_arms is_of_states place (said returned [])

  pub sure_case_end : (returned : Returned) → Sure (case_end statement returned) (token_look (keyword (codes "else") ∷ marked mark.BlockClose ∷ []))
  sure_case_end returned =
      clear_choice (clear_then (clear_word (codes "else")) (λ x. clear_then (clear_mark mark.Colon) (λ y. sure_block_end returned))) (clear_ended mark.BlockClose _) refl refl

abbrev pub IsSureBelow : Deeper → Type 0
IsSureBelow nothing = Unit {0}
IsSureBelow (deeper levels statement) = IsSureStatement statement

sure_block : (inner : Deeper) → IsSureBelow inner → (returned : Returned) → Sure (block_form inner returned) (token_look (marked mark.BlockOpen ∷ []))
sure_block nothing ki returned = sure_deep (is_mark mark.BlockOpen) (marked mark.BlockOpen ∷ []) (next_mark mark.BlockOpen)
sure_block (deeper levels statement) ki returned =
    clear_then (clear_mark mark.BlockOpen) (λ x. clear_sequence (sure_block_end statement ki returned) (λ body. clear_gives _) refl)

abbrev statement_words : List Front
statement_words =
    keyword (codes "if") ∷ keyword (codes "case") ∷ keyword (codes "return")
    ∷ keyword (codes "bgp_next_hop") ∷ keyword (codes "bgp_path") ∷ keyword (codes "bgp_community") ∷ keyword (codes "bgp_large_community")
    ∷ keyword (codes "accept") ∷ keyword (codes "reject") ∷ []

-- one of nine, in whatever way they are joined
one_of_nine : (a b c d e f g h i : Bool) → ((a || b || c) || (d || e || f || g) || (h || i)) ≡ true → (a || (b || (c || (d || (e || (f || (g || (h || (i || false))))))))) ≡ true
one_of_nine true b c d e f g h i p = refl
one_of_nine false true c d e f g h i p = refl
one_of_nine false false true d e f g h i p = refl
one_of_nine false false false true e f g h i p = refl
one_of_nine false false false false true f g h i p = refl
one_of_nine false false false false false true g h i p = refl
one_of_nine false false false false false false true h i p = refl
one_of_nine false false false false false false false true i p = refl
one_of_nine false false false false false false false false i p = or_left i false p

if_some : {A : Type 0} (b : Bool) (x : A) → is_some (if b then Some x else None) ≡ true → b ≡ true
if_some true x e = refl
if_some false x e = absurd cc

statement_word_front : (w : List ℕ) → is_some (statement_word w) ≡ true → one_of statement_words (kind.Word w) ≡ true
statement_word_front w e =
    one_of_nine (same_word w (codes "if")) (same_word w (codes "case")) (same_word w (codes "return")) (same_word w (codes "bgp_next_hop")) (same_word w (codes "bgp_path")) (same_word w (codes "bgp_community")) (same_word w (codes "bgp_large_community")) (same_word w (codes "accept")) (same_word w (codes "reject"))
    (if_some _ w e)

first_statement_word : First (takes (word_in statement_word)) (token_look statement_words)
first_statement_word = clear_takes _ statement_words (word_front statement_word statement_words statement_word_front)

pub first_no_branch : {A : Type 0} (frame : Frame) → First (no_branch {A = A} frame) (token_look statement_starts)
first_no_branch frame =
    clear_wider
    (clear_bars is_block Deep (marked mark.BlockOpen ∷ []) (next_mark mark.BlockOpen)
    (clear_choice
    (clear_here (λ place. clear_then clear_name (λ called. clear_checks (clear_never (token_look []) []))))
    (clear_here (λ place. clear_then first_statement_word (λ word. clear_checks (clear_never (token_look []) [])))) refl refl)
    (first_asks (is_mark mark.BlockOpen)))
    refl refl

brace_is : (k : Kind) → is_front (marked mark.BlockOpen) k ≡ true → is_mark mark.BlockOpen k ≡ true
brace_is (kind.Mark m) e = e
brace_is k e = absurd cc

no_brace : (b : Bool) → b ≡ false → ¬ (b ≡ true)
no_brace b e h = cc

without_brace : (fs : List Front) (ts : List Kind) → is_block ts ≡ false → Starts (marked mark.BlockOpen ∷ fs) ts → Starts fs ts
without_brace fs [] free p = absurd cc
without_brace fs (k ∷ ts) free p =
    or_elim (is_front (marked mark.BlockOpen) k) (one_of fs k) p (λ brace. absurd (no_brace (is_mark mark.BlockOpen k) free (brace_is k brace))) (λ other. other)

pub sure_branch : (frame : Frame) (inner : Deeper) → IsSureBelow inner → (in_arm : Bool) (returned : Returned) → Barred (branch_form frame inner in_arm returned) (token_look statement_starts) else_word
sure_branch frame nothing ki in_arm returned = sure_of (clear_wider (first_no_branch frame) refl refl)
sure_branch frame (deeper levels statement) ki in_arm returned =
    clear_choice (clear_then (clear_mark mark.BlockOpen) (λ x. sure_block_end statement ki returned))
    (clear_without is_block brace_less (marked mark.BlockOpen ∷ []) (clear_sequence (ki in_arm returned) (λ one. clear_gives _) refl) (without_brace brace_less) (next_mark mark.BlockOpen)
    (next_seen (is_mark mark.BlockOpen)))
    refl refl

-- The two tests of an `else`.

else_open : (ts : List Kind) → MayOpen (the_word (codes "else")) ts → is_else ts ≡ true
else_open [] p = absurd p
else_open (k ∷ ts) p = so_is (is_word (codes "else") k) p

not_from : (b : Bool) → b ≡ false → not b ≡ true
not_from true e = absurd cc
not_from false e = refl

if_else_there : (in_arm : Bool) (ts : List Kind) → is_case_else in_arm ts ≡ false → is_else ts ≡ true → is_if_else in_arm ts ≡ true
if_else_there in_arm ts free there = and_from (is_else ts) (not (is_case_else in_arm ts)) there (not_from (is_case_else in_arm ts) free)

if_else_word : (in_arm : Bool) (ts : List Kind) → is_if_else in_arm ts ≡ true → Starts else_word ts
if_else_word in_arm ts e = next_word (codes "else") ts ((and_parts (is_else ts) (not (is_case_else in_arm ts)) e).0)

there_behind : (b : Bool) (ts : List Kind) (test : List Kind → Bool) → is_there (if b then Some ts else None) test ≡ true → b ≡ true
there_behind true ts test e = refl
there_behind false ts test e = absurd cc

case_else_word : (in_arm : Bool) (ts : List Kind) → is_case_else in_arm ts ≡ true → Starts else_word ts
case_else_word true [] e = absurd cc
case_else_word true (k ∷ ts) e = next_word (codes "else") (k ∷ ts) (there_behind (is_word (codes "else") k) ts (is_next (is_mark mark.Colon)) e)
case_else_word false ts e = absurd cc

there_same : (b : Bool) (x y : List Kind) (test : List Kind → Bool) → (b ≡ true → test x ≡ test y) → is_there (if b then Some x else None) test ≡ is_there (if b then Some y else None) test
there_same true x y test h = h refl
there_same false x y test h = refl

pub case_else_seen : (in_arm : Bool) → IsSeen behind_else (is_case_else in_arm)
case_else_seen true = (refl, λ k x y h. there_same (is_word (codes "else") k) x y (is_next (is_mark mark.Colon)) h)
case_else_seen false = (refl, λ k x y h. refl)

pub if_else_seen : (in_arm : Bool) → IsSeen behind_else (is_if_else in_arm)
if_else_seen in_arm = (refl, λ k x y h. ap (λ b. is_word (codes "else") k && not b) ((case_else_seen in_arm).1 k x y h))

-- no `else` goes on with an `if` that has none, nor stands behind it
sure_else : (frame : Frame) (inner : Deeper) → IsSureBelow inner → (in_arm : Bool) (test : ExprTree) (then_do : Said (List StmtTree))
    → Barred (else_form frame inner in_arm test then_do) (record { leads = false; full = false; starts = else_word; ends = [] }) else_word
sure_else frame inner ki in_arm test then_do =
    clear_wider
    (clear_or_nothing (is_if_else in_arm) _ else_word
    (clear_unless (is_case_else in_arm) Deep else_word (case_else_word in_arm)
    (clear_then (clear_word (codes "else")) (λ x. clear_sequence (sure_branch frame inner ki in_arm then_do.returned) (λ else_do. clear_gives _) refl)) (case_else_seen in_arm))
    (λ ts p. if_else_there in_arm ts p.0 (else_open ts p.1)) (if_else_word in_arm) refl (if_else_seen in_arm))
    refl refl

pub first_test : (at : Place) (levels : ℕ) → First (test_end at levels) (token_look operand_starts)
first_test at levels = clear_sequence (clear_expression_text at levels (one_type Truth at.statement)) (λ test. clear_then (clear_word (codes "then")) (λ x. clear_checks (clear_gives _))) refl

sure_if : (frame : Frame) (levels : ℕ) (inner : Deeper) → IsSureBelow inner → (in_arm : Bool) (returned : Returned)
    → Barred (if_form frame levels inner in_arm returned) (token_look (keyword (codes "if") ∷ [])) else_word
sure_if frame levels inner ki in_arm returned =
    clear_wider
    (clear_here (λ statement.
    clear_then (clear_word (codes "if")) (λ x.
    clear_then (sure_of (first_test (place_in frame statement) levels)) (λ test.
    clear_sequence (sure_branch frame inner ki in_arm returned) (λ then_do. sure_else frame inner ki in_arm test then_do) refl))))
    refl refl

pub first_subject : (at : Place) (levels : ℕ) → First (subject_end at levels) (token_look operand_starts)
first_subject at levels = clear_sequence (clear_expression_text at levels (subject_wanted at.statement)) (λ on. clear_then (clear_mark mark.BlockOpen) (λ x. clear_checks (clear_gives _))) refl

sure_case : (frame : Frame) (inner : Deeper) → IsSureBelow inner → (returned : Returned) → Sure (case_form frame inner returned) (token_look (keyword (codes "case") ∷ []))
sure_case frame nothing ki returned = sure_deep (is_word (codes "case")) (keyword (codes "case") ∷ []) (next_word (codes "case"))
sure_case frame (deeper levels statement) ki returned =
    clear_here (λ place.
    clear_then (clear_word (codes "case")) (λ x.
    clear_then (sure_of (first_subject (place_in frame place) levels)) (λ subject.
    clear_sequence (sure_arms statement ki subject.is_of_states place returned) (λ some_arms.
    clear_then (sure_case_end statement ki some_arms.returned) (λ other. clear_gives _)) refl)))

sure_statement_with : (frame : Frame) (levels : ℕ) (inner : Deeper) → IsSureBelow inner → IsSureStatement (statement_with frame levels inner)
unfolding statement_with
sure_statement_with frame levels inner ki in_arm returned =
    clear_wider
    (clear_choice (sure_block inner ki returned)
    (clear_choice (sure_if frame levels inner ki in_arm returned)
    (clear_choice (sure_case frame inner ki returned) (sure_of (first_plain frame levels returned))
    refl refl) refl refl) refl refl)
    refl refl

pub sure_statement : (frame : Frame) (levels : ℕ) → IsSureStatement (statement_form frame levels)
sure_statement frame zero = sure_statement_with frame zero nothing tt
sure_statement frame (suc levels) = sure_statement_with frame (suc levels) (deeper levels (statement_form frame levels)) (sure_statement frame levels)

abbrev pub body_look : Look
body_look = record { leads = false; full = true; starts = statement_starts ++ marked mark.BlockClose ∷ []; ends = [] }

pub sure_body : (frame : Frame) (levels : ℕ) (returned : Returned) → Sure (body_form frame levels returned) body_look
sure_body frame levels returned = sure_block_end (statement_form frame levels) (sure_statement frame levels) returned
