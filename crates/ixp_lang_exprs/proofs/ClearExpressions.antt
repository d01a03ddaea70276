-- What is known of the grammar of expressions, also of what may not stand behind one.
use Rattle.std.proofs.Common.{◌≡◌, ℕ, zero, suc, inl, inr, true, false, List, [], ◌∷◌, ◌++◌, codes, length, Option, Some, None, refl}
use Rattle.ixp_lang.specs.Trees.{ExprTree, ExprTrees, conjunction, disjunction}
use Rattle.ixp_lang.specs.declared.expr.Attr.{Attr}
use Rattle.ixp_lang_tokens.specs.declared.fault.Cause.TheVariants.{Mixed, Deep}
use Rattle.ixp_lang_tokens.specs.declared.token.Kind.{Kind}
use Rattle.ixp_lang_tokens.specs.declared.token.Mark.{Mark}
use Rattle.ixp_lang_tokens.specs.declared.token.Mark.TheVariants as mark
use Rattle.ixp_lang_tokens.specs.Pieces.{is_mark, is_next}
use Rattle.ixp_lang_tokens.specs.Grammars.{Grammar, rounds, onward, done}
use Rattle.ixp_lang_tokens.proofs.Clear.{MayEmpty, GoesOn}
use Rattle.ixp_lang_tokens.proofs.Fronts.{Front, marked, keyword, name, Starts, are_apart}
use Rattle.ixp_lang_tokens.proofs.Looks.{Look, full_look, token_look}
use Rattle.ixp_lang_tokens.proofs.ClearLooks.{Clearly, clear_gives, clear_token, clear_mark, clear_name, clear_sequence, clear_then, clear_choice, clear_checks, clear_bars, clear_here, clear_rounds, clear_wider, first_test}
use Rattle.ixp_lang_tokens.proofs.Known.{next_mark}
use Rattle.ixp_lang_exprs.specs.declared.env.Signature.{Signature}
use Rattle.ixp_lang_exprs.specs.declared.wanted.Wanted.{Wanted}
use Rattle.ixp_lang_exprs.specs.declared.types.ValueType.TheVariants.{Bool as Truth}
use Rattle.ixp_lang_exprs.specs.Operands.{Operand, anything, one_type}
use Rattle.ixp_lang_exprs.specs.Expressions.{Place, has_parts, attribute_form, Shape, plain, arguments, roa_values, Parts, wanted_part, part_form, some_parts, no_parts, enclosed, Chain, comparison_of, chain_part, chain_of, expression_of, Deeper, nothing, deeper, is_left, opened, negation_form, plain_form, call_form, name_form, named_form, called, check_form, roa_table, set_form, operand_form, unary_form, front}
use Rattle.ixp_lang_exprs.proofs.Known.{none_apart}
use Rattle.ixp_lang_exprs.proofs.ClearLists.{clear_never, clear_only, clear_ended}
use Rattle.ixp_lang_exprs.proofs.ClearSets.{clear_elements}
use Rattle.ixp_lang_exprs.proofs.KnownTokens.{literals, checks_word, attributes, operators, known_literal, known_part, known_attribute, known_check, known_operator, known_part_end, front_tokens, known_front_token}

-- what an operand may begin with
abbrev pub operand_starts : List Front
operand_starts = marked mark.Not ∷ marked mark.Open ∷ keyword (codes "roa_check") ∷ name ∷ (literals ++ (attributes ++ marked mark.SetOpen ∷ []))

abbrev pub unary_look : Look
unary_look = full_look operand_starts (marked mark.Dot ∷ [])

abbrev pub comparison_look : Look
comparison_look = full_look operand_starts (marked mark.Dot ∷ operators)

abbrev pub expression_ends : List Front
expression_ends = marked mark.Dot ∷ marked mark.And ∷ marked mark.Or ∷ operators

-- a chain of one joint doesn't stand before the other one
abbrev pub expression_bars : List Front
expression_bars = marked mark.And ∷ marked mark.Or ∷ []

abbrev pub expression_look : Look
expression_look = full_look operand_starts expression_ends

clear_attribute_text : (wanted : Wanted) (a : Attr) → Clearly (attribute_form wanted a) (record { leads = false; full = false; starts = marked mark.Dot ∷ []; ends = marked mark.Dot ∷ [] }) []
clear_attribute_text wanted a =
    clear_checks
    (clear_choice (clear_only (has_parts a) (clear_then (clear_mark mark.Dot) (λ x. clear_then (clear_token _ _ (known_part a)) (λ p. clear_gives _)))) (clear_gives _) refl refl)

-- Chains.
module _ (unary : Wanted → Grammar Operand) (ku : (wanted : Wanted) → Clearly (unary wanted) unary_look []) where
  pub clear_comparison : (wanted : Wanted) → Clearly (comparison_of unary wanted) comparison_look []
  clear_comparison wanted =
      clear_wider
      (clear_sequence (ku wanted) (λ left.
      clear_checks
      (clear_here (λ place.
      clear_choice (clear_then (clear_token _ _ known_operator) (λ op. clear_checks (clear_sequence (ku anything) (λ right. clear_checks (clear_gives _)) refl))) (clear_gives _) refl refl))) refl)
      refl refl

  module _ (joint other : Mark) (joined : ExprTrees → ExprTree) where
    part_full : (t u : Chain) (ts : List Kind) → ¬ (MayEmpty (chain_part unary joint other joined t) (onward u) ts)
    part_full t u ts (part, empty, more) = (clear_comparison (one_type Truth t.place)).full refl part ts empty

    part_onward : (t u : Chain) (rest : List Kind) → GoesOn (chain_part unary joint other joined t) (onward u) rest → Starts [] rest
    part_onward t u rest (part, inl (n, inl (x, inl p))) = absurd p
    part_onward t u rest (part, inl (n, inl (x, inr (empty, p)))) = absurd p
    part_onward t u rest (part, inl (n, inr (inl p))) = absurd p
    part_onward t u rest (part, inl (n, inr (inr (same, p)))) = absurd cc
    part_onward t u rest (part, inr ((n, inl (x, empty, more)), p)) = absurd empty
    part_onward t u rest (part, inr ((n, inr same), p)) = absurd cc

    pub clear_chain_part : are_apart (marked other ∷ marked joint ∷ []) (marked mark.Dot ∷ operators) ≡ true → (chain : Chain)
        → Clearly (chain_part unary joint other joined chain) (full_look operand_starts (marked joint ∷ marked mark.Dot ∷ operators)) (marked other ∷ [])
    clear_chain_part apart chain =
        clear_sequence (clear_comparison (one_type Truth chain.place)) (λ part.
        clear_here (λ place.
        clear_bars (is_next (is_mark other)) Mixed (marked other ∷ []) (next_mark other)
        (clear_choice (clear_then (clear_mark joint) (λ x. clear_checks (clear_gives _))) (clear_gives _) refl refl) (first_test (is_mark other)))) apart

    pub clear_chain_rounds : are_apart (marked other ∷ marked joint ∷ []) (marked mark.Dot ∷ operators) ≡ true → (chain : Chain)
        → Clearly (rounds (chain_part unary joint other joined) chain) (full_look operand_starts (marked joint ∷ marked mark.Dot ∷ operators)) (marked other ∷ [])
    clear_chain_rounds apart chain =
        clear_rounds (chain_part unary joint other joined) (full_look operand_starts (marked joint ∷ marked mark.Dot ∷ operators)) [] (marked joint ∷ marked mark.Dot ∷ operators) (marked other ∷ [])
        (clear_chain_part apart) chain part_full part_onward (λ t v rest p. (clear_chain_part apart t).ends (done v) rest p) (none_apart operand_starts)

    clear_chain : are_apart (marked other ∷ marked joint ∷ []) (marked mark.Dot ∷ operators) ≡ true → (first : Operand) (place : ℕ)
        → Clearly (chain_of unary joint other joined first place) (full_look (marked joint ∷ []) (marked joint ∷ marked mark.Dot ∷ operators)) (marked other ∷ [])
    clear_chain apart first place = clear_then (clear_mark joint) (λ x. clear_checks (clear_chain_rounds apart _))

  pub clear_expression : (wanted : Wanted) → Clearly (expression_of unary wanted) expression_look expression_bars
  clear_expression wanted =
      clear_wider
      (clear_sequence (clear_comparison wanted) (λ first.
      clear_here (λ place.
      clear_choice (clear_chain mark.And mark.Or conjunction refl first place)
      (clear_choice (clear_chain mark.Or mark.And disjunction refl first place) (clear_gives first) refl refl) refl refl)) refl)
      refl refl

-- What stands in parentheses.

clear_front : (at : Place) → Clearly (front at) (token_look (front_tokens ++ name ∷ [])) []
clear_front at = clear_choice (clear_token _ _ known_front_token) (clear_here (λ left. clear_then clear_name (λ n. clear_checks (clear_gives _)))) refl refl

module _ (expression : Wanted → Grammar Operand) (ke : (wanted : Wanted) → Clearly (expression wanted) expression_look expression_bars) where
  pub clear_part_text : (shape : Shape) (place : ℕ) (before : Parts) → Clearly (part_form expression shape place before) (token_look operand_starts) []
  clear_part_text shape place before =
      clear_here (λ left. clear_sequence (ke (wanted_part shape (length before.trees) place)) (λ operand. clear_then (clear_token _ _ (known_part_end shape (length before.trees))) (λ is_last. clear_checks (clear_gives _))) refl)

  parts_full : (shape : Shape) (place : ℕ) (t u : Parts) (ts : List Kind) → ¬ (MayEmpty (part_form expression shape place t) (onward u) ts)
  parts_full shape place t u ts p = (clear_part_text shape place t).full refl (onward u) ts p

  pub clear_parts_rounds : (shape : Shape) (place : ℕ) (before : Parts) → Clearly (rounds (part_form expression shape place) before) (token_look operand_starts) []
  clear_parts_rounds shape place before =
      clear_rounds (part_form expression shape place) (token_look operand_starts) [] [] [] (clear_part_text shape place) before (parts_full shape place)
      (λ t u rest p. (clear_part_text shape place t).ends (onward u) rest p)
      (λ t v rest p. (clear_part_text shape place t).ends (done v) rest p) (none_apart operand_starts)

  pub clear_some_parts : (shape : Shape) (place : ℕ) → Clearly (some_parts expression shape place) (token_look operand_starts) []
  clear_some_parts shape place = clear_here (λ left. clear_parts_rounds shape place (no_parts left))

  -- what is enclosed ends with a mark of its own
  pub clear_enclosed : (at : Place) (shape : Shape) (place : ℕ) → Clearly (enclosed at expression shape place) (token_look (marked mark.Close ∷ operand_starts)) []
  clear_enclosed at (arguments []) place =
      clear_wider (clear_here (λ left. clear_choice (clear_ended mark.Close (no_parts left)) (clear_then (clear_front at) (λ x. clear_checks (clear_gives _))) refl refl)) refl refl
  clear_enclosed at (arguments (p ∷ ps)) place =
      clear_choice (clear_then (clear_mark mark.Close) (λ x. clear_checks (clear_gives _))) (clear_some_parts (arguments (p ∷ ps)) place) refl refl
  clear_enclosed at plain place = clear_wider (clear_some_parts plain place) refl refl
  clear_enclosed at roa_values place = clear_wider (clear_some_parts roa_values place) refl refl

-- What stands alone.

abbrev pub IsClear : Deeper → Type 0
IsClear nothing = Unit {0}
IsClear (deeper unary) = (wanted : Wanted) → Clearly (unary wanted) unary_look []

clear_opened : {A : Type 0} {f : (Wanted → Grammar Operand) → Grammar A} {l : Look} (m : Mark) (inner : Deeper) → IsClear inner → ((unary : Wanted → Grammar Operand) → ((wanted : Wanted) → Clearly (unary wanted) unary_look []) → Clearly (f unary) l [])
    → Clearly (opened m inner f) (full_look (marked m ∷ []) l.ends) []
clear_opened {A} {f} {l} m nothing ki kf = clear_bars (is_next (is_mark m)) Deep (marked m ∷ []) (next_mark m) (clear_never (full_look [] l.ends) []) (first_test (is_mark m))
clear_opened {A} {f} {l} m (deeper unary) ki kf = clear_then (clear_mark m) (λ x. kf unary ki)

clear_negation : (inner : Deeper) → IsClear inner → Clearly (negation_form inner) (full_look (marked mark.Not ∷ []) (marked mark.Dot ∷ [])) []
clear_negation inner ki = clear_here (λ place. clear_opened mark.Not inner ki (λ unary ku. clear_sequence (ku anything) (λ operand. clear_checks (clear_gives _)) refl))

clear_plain : (at : Place) (inner : Deeper) → IsClear inner → Clearly (plain_form at inner) (token_look (marked mark.Open ∷ [])) []
clear_plain at inner ki =
    clear_opened mark.Open inner ki (λ unary ku. clear_then (clear_enclosed (expression_of unary) (clear_expression unary ku) at plain at.statement) (λ parts. clear_gives _))

clear_call : (at : Place) (inner : Deeper) → IsClear inner → (called_as : List ℕ) (place : ℕ) (signature : Signature) → Clearly (call_form at inner called_as place signature) (token_look (marked mark.Open ∷ [])) []
clear_call at inner ki called_as place signature =
    clear_checks
    (clear_opened mark.Open inner ki (λ unary ku. clear_then (clear_enclosed (expression_of unary) (clear_expression unary ku) at (arguments signature.params) place) (λ parts. clear_gives _)))

-- a value ends with its name, a call goes on behind it
abbrev pub behind_name : Look
behind_name = record { leads = false; full = false; starts = marked mark.Open ∷ []; ends = [] }

clear_behind_name : (at : Place) (inner : Deeper) → IsClear inner → (called_as : List ℕ) (place : ℕ) (s : Option Signature) → Clearly (name_form at inner called_as place s) behind_name []
clear_behind_name at inner ki called_as place (Some signature) = clear_wider (clear_call at inner ki called_as place signature) refl refl
clear_behind_name at inner ki called_as place None = clear_wider (clear_checks (clear_gives _)) refl refl

clear_named : (at : Place) (inner : Deeper) → IsClear inner → Clearly (named_form at inner) (token_look (name ∷ [])) []
clear_named at inner ki = clear_here (λ place. clear_then clear_name (λ called_as. clear_behind_name at inner ki called_as place (called at called_as)))

clear_roa_table : (at : Place) (place : ℕ) → Clearly (roa_table at place) (token_look (name ∷ [])) []
clear_roa_table at place = clear_here (λ left. clear_then clear_name (λ table. clear_checks (clear_gives _)))

clear_check_text : (at : Place) (inner : Deeper) → IsClear inner → Clearly (check_form at inner) (token_look checks_word) []
clear_check_text at inner ki =
    clear_here (λ place.
    clear_then (clear_token _ _ (known_check at)) (λ x.
    clear_opened mark.Open inner ki (λ unary ku.
    clear_then (clear_roa_table at place) (λ table.
    clear_then (clear_mark mark.Comma) (λ y.
    clear_then (clear_enclosed (expression_of unary) (clear_expression unary ku) at roa_values place) (λ parts. clear_gives _))))))

clear_set : (at : Place) (inner : Deeper) → Clearly (set_form at inner) (token_look (marked mark.SetOpen ∷ [])) []
clear_set at inner = clear_then (clear_mark mark.SetOpen) (λ x. clear_then (clear_elements at.names (is_left inner)) (λ s. clear_gives _))

clear_operand : (at : Place) (inner : Deeper) → IsClear inner → (wanted : Wanted) → Clearly (operand_form at inner wanted) unary_look []
unfolding operand_form
clear_operand at inner ki wanted =
    clear_wider
    (clear_choice (clear_negation inner ki)
    (clear_choice (clear_plain at inner ki)
    (clear_choice (clear_check_text at inner ki)
    (clear_choice (clear_named at inner ki)
    (clear_choice (clear_token _ _ known_literal)
    (clear_choice (clear_then (clear_token _ _ (known_attribute at)) (clear_attribute_text wanted)) (clear_set at inner)
    refl refl) refl refl) refl refl) refl refl) refl refl) refl refl)
    refl refl

pub clear_unary : (at : Place) (levels : ℕ) (wanted : Wanted) → Clearly (unary_form at levels wanted) unary_look []
clear_unary at zero = clear_operand at nothing tt
clear_unary at (suc levels) = clear_operand at (deeper (unary_form at levels)) (clear_unary at levels)
