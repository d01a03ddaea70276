-- Statements that hold no others, labels, and what statements begin with, and what these are with more levels.
use Rattle.std.proofs.Common.{ℕ, ◌<◌, Bool, List, [], ◌∷◌, codes, refl}
use Rattle.ixp_num.specs.declared.roa.Validity.TheVariants.{Valid}
use Rattle.ixp_lang.specs.Trees.{StmtTree, ExprTree, accept, reject, add_pair, delete_pairs, add_triple, delete_triples}
use Rattle.ixp_lang_tokens.specs.declared.token.Kind.TheVariants as kind
use Rattle.ixp_lang_tokens.specs.declared.token.Mark.TheVariants as mark
use Rattle.ixp_lang_tokens.proofs.Fronts.{marked, keyword, name, number}
use Rattle.ixp_lang_tokens.proofs.Looks.{full_look, token_look}
use Rattle.ixp_lang_tokens.proofs.ClearLooks.{clear_token}
use Rattle.ixp_lang_tokens.proofs.Whole.{Whole, whole_gives, whole_takes, whole_then, whole_sequence, whole_choice, whole_checks, whole_here, whole_wider}
use Rattle.ixp_lang_exprs.specs.declared.types.ValueType.{ValueType}
use Rattle.ixp_lang_exprs.specs.declared.types.ValueType.TheVariants.{Int, Bool as Truth, Ip, Pair, Triple, PairSet, TripleSet}
use Rattle.ixp_lang_exprs.specs.Names.{function_of}
use Rattle.ixp_lang_exprs.specs.Expressions.{Place, arguments, expression_form}
use Rattle.ixp_lang_exprs.proofs.KnownTokens.{states, known_state}
use Rattle.ixp_lang_exprs.proofs.KnownExpressions.{operand_starts}
use Rattle.ixp_lang_exprs.proofs.WholeLists.{whole_mark, whole_word, whole_name, whole_number, whole_ended, whole_listed}
use Rattle.ixp_lang_exprs.proofs.WholeExpressions.{whole_enclosed, whole_expression_text}
use Rattle.ixp_lang_exprs.specs.Operands.{one_type}
use Rattle.ixp_lang_stmts.specs.Statements.{Frame, place_in, Returned, returned_wanted, subject_wanted, value_end, enclosed_end, params_of, call_end, call_form, return_form, next_hop_end, prepend_end, change_end, verdict_form, change_form, plain_form, number_label, state_label, label_form, labels_form, test_end, subject_end}
use Rattle.ixp_lang_stmts.proofs.SureStatements.{change_words, plain_words, label_starts}

module _ (levels more : ℕ) (less : levels < more) where
  whole_value_end : (at : Place) (wanted : ValueType) → Whole (value_end at levels wanted) (value_end at more wanted) (token_look operand_starts) []
  whole_value_end at wanted = whole_sequence (whole_expression_text at levels more less (one_type wanted at.statement)) (λ value. whole_then (whole_mark mark.Semicolon) (λ x. whole_checks (whole_gives _))) refl refl

  whole_enclosed_end : (at : Place) (wanted : ValueType) → Whole (enclosed_end at levels wanted) (enclosed_end at more wanted) (token_look (marked mark.Open ∷ [])) []
  whole_enclosed_end at wanted =
      whole_then (whole_mark mark.Open) (λ x.
      whole_sequence (whole_expression_text at levels more less (one_type wanted at.statement)) (λ value. whole_then (whole_mark mark.Close) (λ y. whole_checks (whole_ended mark.Semicolon _))) refl refl)

  whole_call_end : (at : Place) (called : List ℕ) → Whole (call_end at levels called) (call_end at more called) (token_look (marked mark.Open ∷ [])) []
  whole_call_end at called =
      whole_then (whole_mark mark.Open) (λ x.
      whole_then (whole_enclosed (expression_form at levels) (expression_form at more) (whole_expression_text at levels more less) at (arguments (params_of (function_of (at.names called)))) at.statement) (λ parts.
      whole_ended mark.Semicolon _))

  whole_call : (at : Place) → Whole (call_form at levels) (call_form at more) (token_look (name ∷ [])) []
  whole_call at = whole_then whole_name (λ called. whole_checks (whole_call_end at called))

  whole_return : (at : Place) (returned : Returned) → Whole (return_form at levels returned) (return_form at more returned) (token_look (keyword (codes "return") ∷ [])) []
  whole_return at returned =
      whole_then (whole_word (codes "return")) (λ x.
      whole_checks (whole_sequence (whole_expression_text at levels more less (returned_wanted returned at.statement)) (λ value. whole_then (whole_mark mark.Semicolon) (λ y. whole_checks (whole_gives _))) refl refl))

  whole_next_hop : (at : Place) → Whole (next_hop_end at levels) (next_hop_end at more) (token_look (marked mark.Equal ∷ [])) []
  whole_next_hop at = whole_then (whole_mark mark.Equal) (λ x. whole_then (whole_value_end at Ip) (λ value. whole_gives _))

  whole_prepend : (at : Place) → Whole (prepend_end at levels) (prepend_end at more) (token_look (marked mark.Dot ∷ [])) []
  whole_prepend at = whole_then (whole_mark mark.Dot) (λ x. whole_then (whole_word (codes "prepend")) (λ y. whole_then (whole_enclosed_end at Int) (λ value. whole_gives _)))

  whole_change_end : (at : Place) (one : ValueType) (add : ExprTree → StmtTree) (many : ValueType) (delete : ExprTree → StmtTree)
      → Whole (change_end at levels one add many delete) (change_end at more one add many delete) (token_look (marked mark.Dot ∷ [])) []
  whole_change_end at one add many delete =
      whole_then (whole_mark mark.Dot) (λ x.
      whole_choice (whole_then (whole_word (codes "add")) (λ y. whole_then (whole_enclosed_end at one) (λ value. whole_gives _)))
      (whole_then (whole_word (codes "delete")) (λ y. whole_then (whole_enclosed_end at many) (λ value. whole_gives _))) refl refl)

  whole_verdict : (word : List ℕ) (verdict : StmtTree) → Whole (verdict_form word verdict) (verdict_form word verdict) (token_look (keyword word ∷ [])) []
  whole_verdict word verdict = whole_then (whole_word word) (λ x. whole_ended mark.Semicolon _)

  whole_change : (at : Place) → Whole (change_form at levels) (change_form at more) (token_look (name ∷ change_words)) []
  unfolding change_form
  whole_change at =
      whole_wider
      (whole_choice (whole_call at)
      (whole_choice (whole_then (whole_word (codes "bgp_next_hop")) (λ x. whole_next_hop at))
      (whole_choice (whole_then (whole_word (codes "bgp_path")) (λ x. whole_prepend at))
      (whole_choice (whole_then (whole_word (codes "bgp_community")) (λ x. whole_change_end at Pair add_pair PairSet delete_pairs))
      (whole_choice (whole_then (whole_word (codes "bgp_large_community")) (λ x. whole_change_end at Triple add_triple TripleSet delete_triples))
      (whole_choice (whole_verdict (codes "accept") accept) (whole_verdict (codes "reject") reject)
      refl refl) refl refl) refl refl) refl refl) refl refl) refl refl)
      refl refl

  pub whole_plain : (frame : Frame) (returned : Returned) → Whole (plain_form frame levels returned) (plain_form frame more returned) (token_look (name ∷ plain_words)) []
  whole_plain frame returned =
      whole_wider
      (whole_here (λ statement.
      whole_choice (whole_return (place_in frame statement) returned) (whole_then (whole_change (place_in frame statement)) (λ change. whole_gives _)) refl refl))
      refl refl

  pub whole_test : (at : Place) → Whole (test_end at levels) (test_end at more) (token_look operand_starts) []
  whole_test at = whole_sequence (whole_expression_text at levels more less (one_type Truth at.statement)) (λ test. whole_then (whole_word (codes "then")) (λ x. whole_checks (whole_gives _))) refl refl

  pub whole_subject : (at : Place) → Whole (subject_end at levels) (subject_end at more) (token_look operand_starts) []
  whole_subject at = whole_sequence (whole_expression_text at levels more less (subject_wanted at.statement)) (λ on. whole_then (whole_mark mark.BlockOpen) (λ x. whole_checks (whole_gives _))) refl refl

-- Labels.

whole_number_label : (is_of_states : Bool) (place : ℕ) → Whole (number_label is_of_states place) (number_label is_of_states place) (full_look (number ∷ []) (marked mark.Range ∷ [])) []
whole_number_label is_of_states place =
    whole_then whole_number (λ low. whole_checks (whole_choice (whole_then (whole_mark mark.Range) (λ x. whole_then whole_number (λ high. whole_gives _))) (whole_gives _) refl refl))

whole_state_label : (is_of_states : Bool) (place : ℕ) → Whole (state_label is_of_states place) (state_label is_of_states place) (token_look states) []
whole_state_label is_of_states place = whole_then (whole_takes (kind.Word (codes "ROA_VALID")) Valid refl (clear_token _ _ known_state)) (λ state. whole_checks (whole_gives _))

whole_label : (is_of_states : Bool) (place : ℕ) → Whole (label_form is_of_states place) (label_form is_of_states place) (full_look label_starts (marked mark.Range ∷ [])) []
whole_label is_of_states place = whole_choice (whole_number_label is_of_states place) (whole_state_label is_of_states place) refl refl

pub whole_labels : (is_of_states : Bool) (place : ℕ) → Whole (labels_form is_of_states place) (labels_form is_of_states place) (token_look label_starts) []
whole_labels is_of_states place =
    whole_sequence (whole_listed _ _ label_starts (marked mark.Range ∷ []) (λ items. whole_label is_of_states place) refl) (λ labels. whole_ended mark.Colon labels) refl refl
