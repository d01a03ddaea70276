-- What written tokens say of expressions is written again.
use Rattle.std.proofs.Common.{◌≡◌, ◌⊎◌, ℕ, zero, suc, inl, inr, Bool, true, false, List, [], ◌∷◌, ◌++◌, length, Option, Some, None, option_map, sym, subst}
use Rattle.ixp_num.specs.declared.roa.Validity.{Validity}
use Rattle.ixp_lang.specs.Trees.{ExprTree, literal, attribute, call, pair, triple, negation, conjunction, disjunction, comparison, ExprTrees, exprs}
use Rattle.ixp_lang.specs.declared.value.Value.TheVariants as value
use Rattle.ixp_lang.specs.declared.expr.Attr.{Attr}
use Rattle.ixp_lang.specs.declared.expr.Attr.TheVariants as attr
use Rattle.ixp_lang.specs.declared.expr.Op.{Op}
use Rattle.ixp_lang_tokens.specs.declared.token.Kind.{Kind}
use Rattle.ixp_lang_tokens.specs.declared.token.Kind.TheVariants as kind
use Rattle.ixp_lang_tokens.specs.declared.token.Mark.{Mark}
use Rattle.ixp_lang_tokens.specs.declared.token.Mark.TheVariants as mark
use Rattle.ixp_lang_tokens.specs.Grammars.{Grammar}
use Rattle.ixp_lang_exprs.specs.declared.types.ValueType.{ValueType}
use Rattle.ixp_lang_exprs.specs.declared.types.ValueType.TheVariants.{Bool as Truth, Int, Ip, Prefix, State}
use Rattle.ixp_lang_exprs.specs.declared.env.Signature.{Signature}
use Rattle.ixp_lang_exprs.specs.declared.wanted.Wanted.{Wanted}
use Rattle.ixp_lang_exprs.specs.Operands.{Operand, closed, anything, one_type, literal_number, pair_with, triple_with}
use Rattle.ixp_lang_exprs.specs.Expressions.{Place, truth_in, state_in, literal_word, literal_in, attribute_form, has_parts, named_value, Shape, plain, arguments, roa_values, Parts, wanted_part, with_part, ends_with, part_form, some_parts, front, enclosed, plain_tree, check_tree, Chain, comparison_of, chain_part, chain_of, expression_of, Deeper, nothing, deeper, is_left, opened, negation_form, plain_form, name_form, named_form, roa_table, checked_form, check_form, set_form, operand_form, unary_form, expression_form, called}
use Rattle.ixp_print.specs.Texts.{is_chain, is_compound}
use Rattle.ixp_lang_laws.specs.Canonical.{sign, expr_tokens, exprs_tokens, more_exprs_tokens, chain_tokens, more_chain_tokens}
use Rattle.ixp_lang_laws.specs.Printed.{IsWritten}
use Rattle.ixp_lang_laws.proofs.SaidBasics.{either_some}
use Rattle.ixp_lang_laws.proofs.Tokens.{mapped}
use Rattle.ixp_lang_laws.proofs.Keeping.{Keeps, Any, Kept, keeps_gives, keeps_takes, keeps_token, keeps_sequence, keeps_then, keeps_choice, keeps_checks, keeps_bars, keeps_here, keeps_rounds, keeps_mark, keeps_never, keeps_only, keeps_ended, IsNumber, IsName, keeps_name, AreAll, all_more, Writes, wrapped_writes}
use Rattle.ixp_lang_laws.proofs.WrittenSets.{NumbersFit, pair_writes, triple_writes, keeps_elements}

abbrev pub IsExpr : ExprTree → Type 0
IsExpr e = Writes (expr_tokens e)

abbrev pub IsOperand : Operand → Type 0
IsOperand o = IsExpr o.tree

-- Trees from their parts.

number_writes : (n : ℕ) → IsNumber n → IsExpr (literal (value.Int n))
number_writes n fit rest written = (fit, written)

more_exprs_write : (es : List ExprTree) → AreAll IsExpr es → Writes (more_exprs_tokens (exprs es))
more_exprs_write [] all rest written = written
more_exprs_write (e ∷ es) (one, all) rest written = (tt, one (more_exprs_tokens (exprs es) rest) (more_exprs_write es all rest written))

pub exprs_write : (es : List ExprTree) → AreAll IsExpr es → Writes (exprs_tokens (exprs es))
exprs_write [] all rest written = written
exprs_write (e ∷ es) (one, all) rest written = one (more_exprs_tokens (exprs es) rest) (more_exprs_write es all rest written)

more_chain_writes : (joint : Mark) (es : List ExprTree) → AreAll IsExpr es → Writes (more_chain_tokens joint (exprs es))
more_chain_writes joint [] all rest written = written
more_chain_writes joint (e ∷ es) (one, all) rest written =
    (tt, wrapped_writes (is_chain e) (expr_tokens e) one (more_chain_tokens joint (exprs es) rest) (more_chain_writes joint es all rest written))

chain_writes : (joint : Mark) (es : List ExprTree) → AreAll IsExpr es → Writes (chain_tokens joint (exprs es))
chain_writes joint [] all rest written = written
chain_writes joint (e ∷ es) (one, all) rest written =
    wrapped_writes (is_chain e) (expr_tokens e) one (more_chain_tokens joint (exprs es) rest) (more_chain_writes joint es all rest written)

call_writes : (n : List ℕ) (es : List ExprTree) → IsName n → AreAll IsExpr es → IsExpr (call n (exprs es))
call_writes n es is all rest written = (is, (tt, exprs_write es all (sign mark.Close rest) (tt, written)))

negation_writes : (e : ExprTree) → IsExpr e → IsExpr (negation e)
negation_writes e one rest written = (tt, wrapped_writes (is_compound e) (expr_tokens e) one rest written)

comparison_writes : (op : Op) (e f : ExprTree) → IsExpr e → IsExpr f → IsExpr (comparison op e f)
comparison_writes op e f one two rest written =
    wrapped_writes (is_compound e) (expr_tokens e) one _ (tt, wrapped_writes (is_compound f) (expr_tokens f) two rest written)

pair_is : (e f : ExprTree) → IsExpr e → IsExpr f → IsExpr (pair e f)
pair_is e f one two rest written = (tt, one _ (tt, two _ (tt, written)))

triple_is : (e f g : ExprTree) → IsExpr e → IsExpr f → IsExpr g → IsExpr (triple e f g)
triple_is e f g one two three rest written = (tt, one _ (tt, two _ (tt, three _ (tt, written))))

-- the number that a written literal is
abbrev LiteralFits : Option ℕ → Type 0
LiteralFits None = Unit {0}
LiteralFits (Some n) = IsNumber n

literal_fits : (e : ExprTree) → IsExpr e → LiteralFits (literal_number e)
literal_fits (literal (value.Int n)) is = (is [] tt).0
literal_fits _ is = tt

pair_of : (a b : ExprTree) (m n : Option ℕ) → LiteralFits m → LiteralFits n → IsExpr a → IsExpr b → IsExpr (pair_with a b m n)
pair_of a b (Some m) (Some n) one two is_a is_b = pair_writes m (Some n) one two
pair_of a b (Some m) None one two is_a is_b = pair_is a b is_a is_b
pair_of a b None n one two is_a is_b = pair_is a b is_a is_b

triple_of : (a b c : ExprTree) (l m n : Option ℕ) → LiteralFits l → LiteralFits m → LiteralFits n → IsExpr a → IsExpr b → IsExpr c → IsExpr (triple_with a b c l m n)
triple_of a b c (Some l) (Some m) (Some n) one two three is_a is_b is_c = triple_writes l m (Some n) one two three
triple_of a b c (Some l) (Some m) None one two three is_a is_b is_c = triple_is a b c is_a is_b is_c
triple_of a b c (Some l) None n one two three is_a is_b is_c = triple_is a b c is_a is_b is_c
triple_of a b c None m n one two three is_a is_b is_c = triple_is a b c is_a is_b is_c

plain_is : (es : List ExprTree) (ty : ValueType) → AreAll IsExpr es → IsOperand (plain_tree es ty)
plain_is [] ty all = λ rest written. (tt, written)
plain_is (a ∷ []) ty (one, all) = one
plain_is (a ∷ b ∷ []) ty (one, (two, all)) = pair_of a b (literal_number a) (literal_number b) (literal_fits a one) (literal_fits b two) one two
plain_is (a ∷ b ∷ c ∷ es) ty (one, (two, (three, all))) =
    triple_of a b c (literal_number a) (literal_number b) (literal_number c) (literal_fits a one) (literal_fits b two) (literal_fits c three) one two three

check_is : (table : List ℕ) (es : List ExprTree) → IsName table → AreAll IsExpr es → IsExpr (check_tree table es)
check_is table [] is all rest written = (tt, written)
check_is table (a ∷ []) is all rest written = (tt, written)
check_is table (a ∷ b ∷ es) is (one, (two, all)) rest written = (tt, (tt, (is, (tt, one _ (tt, two _ (tt, written))))))

-- Operands without parentheses.

word_keeps : (w : List ℕ) (o : Operand) → literal_word w ≡ Some o → IsOperand o
word_keeps w o e = by_case (either_some _ _ o e)
  where
    by_truth : (b : Bool) × (o ≡ closed (literal (value.Bool b)) Truth) → IsOperand o
    by_truth (b, is) = subst IsOperand (sym is) (λ rest written. (tt, written))

    by_state : (s : Validity) × (o ≡ closed (literal (value.Roa s)) State) → IsOperand o
    by_state (s, is) = subst IsOperand (sym is) (λ rest written. (tt, written))

    by_case : (option_map (λ b. closed (literal (value.Bool b)) Truth) (truth_in w) ≡ Some o) ⊎ (option_map (λ s. closed (literal (value.Roa s)) State) (state_in w) ≡ Some o) → IsOperand o
    by_case (inl is) = by_truth (mapped _ (truth_in w) o is)
    by_case (inr is) = by_state (mapped _ (state_in w) o is)

literal_keeps : (k : Kind) (o : Operand) → IsWritten k → literal_in k ≡ Some o → IsOperand o
literal_keeps (kind.Number n) o fit e = (let h : closed (literal (value.Int n)) Int ≡ o = cc in subst IsOperand h (number_writes n fit))
literal_keeps (kind.Addr a) o fit e = (let h : closed (literal (value.Ip a)) Ip ≡ o = cc in subst IsOperand h (λ rest written. (tt, written)))
literal_keeps (kind.Prefix p) o fit e = (let h : closed (literal (value.Net p)) Prefix ≡ o = cc in subst IsOperand h (λ rest written. (tt, written)))
literal_keeps (kind.Word w) o fit e = word_keeps w o e
literal_keeps _ o fit e = absurd cc

attribute_is : (a : Attr) → IsExpr (attribute a)
attribute_is attr.Net rest written = (tt, written)
attribute_is attr.NetLen rest written = (tt, (tt, (tt, written)))
attribute_is attr.From rest written = (tt, written)
attribute_is attr.NextHop rest written = (tt, written)
attribute_is attr.Path rest written = (tt, written)
attribute_is attr.First rest written = (tt, (tt, (tt, written)))
attribute_is attr.Last rest written = (tt, (tt, (tt, written)))
attribute_is attr.Len rest written = (tt, (tt, (tt, written)))
attribute_is attr.Pairs rest written = (tt, written)
attribute_is attr.PairsLen rest written = (tt, (tt, (tt, written)))
attribute_is attr.Triples rest written = (tt, written)
attribute_is attr.TriplesLen rest written = (tt, (tt, (tt, written)))

keeps_attribute : (wanted : Wanted) (a : Attr) → Keeps (attribute_form wanted a) IsOperand
keeps_attribute wanted a =
    keeps_checks
    (keeps_choice (keeps_only (has_parts a) (keeps_then (keeps_mark mark.Dot) (λ x. keeps_then (keeps_token _) (λ part. keeps_gives (attribute_is part)))))
    (keeps_gives (attribute_is a)))

keeps_value : (at : Place) (n : List ℕ) (left : ℕ) → IsName n → Keeps (named_value at n left) IsOperand
keeps_value at n left is = keeps_checks (keeps_gives (λ rest written. (is, written)))

keeps_front : (at : Place) → Keeps (front at) Any
keeps_front at = keeps_choice (keeps_token _) (keeps_here (λ left. keeps_sequence keeps_name (λ n is. keeps_checks (keeps_gives tt))))

-- What stands in parentheses.

abbrev AreParts : Parts → Type 0
AreParts parts = AreAll IsExpr parts.trees

ending_is : (is_last : Bool) (parts : Parts) → AreParts parts → Kept AreParts AreParts (ends_with is_last parts)
ending_is true parts all = all
ending_is false parts all = all

module _ (expression : Wanted → Grammar Operand) (k : (wanted : Wanted) → Keeps (expression wanted) IsOperand) where
  keeps_part : (shape : Shape) (place : ℕ) (before : Parts) → AreParts before → Keeps (part_form expression shape place before) (Kept AreParts AreParts)
  keeps_part shape place before all =
      keeps_here (λ left.
      keeps_sequence (k (wanted_part shape (length before.trees) place)) (λ o is.
      keeps_then (keeps_token _) (λ is_last. keeps_checks (keeps_gives (ending_is is_last (with_part before o) (all_more IsExpr before.trees o.tree all is))))))

  keeps_parts : (shape : Shape) (place : ℕ) → Keeps (some_parts expression shape place) AreParts
  keeps_parts shape place = keeps_here (λ left. keeps_rounds AreParts tt (λ before all. keeps_part shape place before all))

  pub keeps_enclosed : (at : Place) (shape : Shape) (place : ℕ) → Keeps (enclosed at expression shape place) AreParts
  keeps_enclosed at (arguments []) place =
      keeps_here (λ left. keeps_choice (keeps_ended mark.Close tt) (keeps_then (keeps_front at) (λ x. keeps_checks (keeps_gives tt))))
  keeps_enclosed at (arguments (p ∷ ps)) place =
      keeps_choice (keeps_then (keeps_mark mark.Close) (λ x. keeps_checks (keeps_gives tt))) (keeps_parts (arguments (p ∷ ps)) place)
  keeps_enclosed at plain place = keeps_parts plain place
  keeps_enclosed at roa_values place = keeps_parts roa_values place

-- Operators.

abbrev IsChain : Chain → Type 0
IsChain chain = AreAll IsExpr chain.parts

abbrev Joins : (ExprTrees → ExprTree) → Type 0
Joins joined = (es : List ExprTree) → AreAll IsExpr es → IsExpr (joined (exprs es))

module _ (unary : Wanted → Grammar Operand) (k : (wanted : Wanted) → Keeps (unary wanted) IsOperand) where
  keeps_comparison : (wanted : Wanted) → Keeps (comparison_of unary wanted) IsOperand
  keeps_comparison wanted =
      keeps_sequence (k wanted) (λ left one.
      keeps_checks
      (keeps_here (λ place.
      keeps_choice
      (keeps_then (keeps_token _) (λ op. keeps_checks (keeps_sequence (k anything) (λ right two. keeps_checks (keeps_gives (comparison_writes op left.tree right.tree one two))))))
      (keeps_gives one))))

  keeps_chain_part : (joint other : Mark) (joined : ExprTrees → ExprTree) → Joins joined → (chain : Chain) → IsChain chain → Keeps (chain_part unary joint other joined chain) (Kept IsChain IsOperand)
  keeps_chain_part joint other joined joins chain all =
      keeps_sequence (keeps_comparison (one_type Truth chain.place)) (λ part one.
      keeps_here (λ place.
      keeps_bars
      (keeps_choice (keeps_then (keeps_mark joint) (λ x. keeps_checks (keeps_gives (all_more IsExpr chain.parts part.tree all one))))
      (keeps_gives (joins (chain.parts ++ part.tree ∷ []) (all_more IsExpr chain.parts part.tree all one))))))

  keeps_chain : (joint other : Mark) (joined : ExprTrees → ExprTree) → Joins joined → (first : Operand) (place : ℕ) → IsOperand first → Keeps (chain_of unary joint other joined first place) IsOperand
  keeps_chain joint other joined joins first place one =
      keeps_then (keeps_mark joint) (λ x. keeps_checks (keeps_rounds IsChain (one, tt) (λ chain all. keeps_chain_part joint other joined joins chain all)))

  pub keeps_expression_of : (wanted : Wanted) → Keeps (expression_of unary wanted) IsOperand
  keeps_expression_of wanted =
      keeps_sequence (keeps_comparison wanted) (λ first one.
      keeps_here (λ place.
      keeps_choice (keeps_chain mark.And mark.Or conjunction (λ es all. chain_writes mark.And es all) first place one)
      (keeps_choice (keeps_chain mark.Or mark.And disjunction (λ es all. chain_writes mark.Or es all) first place one)
      (keeps_gives one))))

-- Levels.

abbrev KeepsBelow : Deeper → Type 0
KeepsBelow nothing = Unit {0}
KeepsBelow (deeper unary) = (wanted : Wanted) → Keeps (unary wanted) IsOperand

keeps_opened : {A : Type 0} {P : A → Type 0} (m : Mark) (inner : Deeper) (f : (Wanted → Grammar Operand) → Grammar A) → KeepsBelow inner → ((unary : Wanted → Grammar Operand) → ((wanted : Wanted) → Keeps (unary wanted) IsOperand) → Keeps (f unary) P) → Keeps (opened m inner f) P
keeps_opened m (deeper unary) f k kf = keeps_then (keeps_mark m) (λ x. kf unary k)
keeps_opened m nothing f k kf = keeps_bars keeps_never

module _ (at : Place) (fit : NumbersFit at.names) (inner : Deeper) (k : KeepsBelow inner) where
  keeps_negation : Keeps (negation_form inner) IsOperand
  keeps_negation =
      keeps_here (λ place. keeps_opened mark.Not inner _ k (λ unary ku. keeps_sequence (ku anything) (λ o one. keeps_checks (keeps_gives (negation_writes o.tree one)))))

  keeps_plain : Keeps (plain_form at inner) IsOperand
  keeps_plain =
      keeps_opened mark.Open inner _ k (λ unary ku.
      keeps_sequence (keeps_enclosed (expression_of unary) (keeps_expression_of unary ku) at plain at.statement) (λ parts all. keeps_gives (plain_is parts.trees parts.ty all)))

  keeps_name_text : (n : List ℕ) (place : ℕ) (s : Option Signature) → IsName n → Keeps (name_form at inner n place s) IsOperand
  keeps_name_text n place (Some signature) is =
      keeps_checks
      (keeps_opened mark.Open inner _ k (λ unary ku.
      keeps_sequence (keeps_enclosed (expression_of unary) (keeps_expression_of unary ku) at (arguments signature.params) place) (λ parts all.
      keeps_gives (call_writes n parts.trees is all))))
  keeps_name_text n place None is = keeps_value at n place is

  keeps_named : Keeps (named_form at inner) IsOperand
  keeps_named = keeps_here (λ place. keeps_sequence keeps_name (λ n is. keeps_name_text n place (called at n) is))

  keeps_table : (place : ℕ) → Keeps (roa_table at place) IsName
  keeps_table place = keeps_here (λ left. keeps_sequence keeps_name (λ n is. keeps_checks (keeps_gives is)))

  keeps_checked : (place : ℕ) → Keeps (checked_form at inner place) IsOperand
  keeps_checked place =
      keeps_opened mark.Open inner _ k (λ unary ku.
      keeps_sequence (keeps_table place) (λ table is.
      keeps_then (keeps_mark mark.Comma) (λ x.
      keeps_sequence (keeps_enclosed (expression_of unary) (keeps_expression_of unary ku) at roa_values place) (λ parts all.
      keeps_gives (check_is table parts.trees is all)))))

  keeps_check : Keeps (check_form at inner) IsOperand
  keeps_check = keeps_here (λ place. keeps_then (keeps_token _) (λ x. keeps_checked place))

  keeps_set : Keeps (set_form at inner) IsOperand
  keeps_set =
      keeps_then (keeps_mark mark.SetOpen) (λ x.
      keeps_sequence (keeps_elements at.names fit (is_left inner)) (λ s is. keeps_gives (λ rest written. (tt, is (sign mark.SetClose rest) (tt, written)))))

  keeps_operand : (wanted : Wanted) → Keeps (operand_form at inner wanted) IsOperand
  unfolding operand_form
  keeps_operand wanted =
      keeps_choice keeps_negation
      (keeps_choice keeps_plain
      (keeps_choice keeps_check
      (keeps_choice keeps_named
      (keeps_choice (keeps_takes literal_keeps)
      (keeps_choice (keeps_then (keeps_token _) (λ a. keeps_attribute wanted a))
      keeps_set)))))

keeps_unary : (at : Place) → NumbersFit at.names → (levels : ℕ) (wanted : Wanted) → Keeps (unary_form at levels wanted) IsOperand
keeps_unary at fit zero = keeps_operand at fit nothing tt
keeps_unary at fit (suc levels) = keeps_operand at fit (deeper (unary_form at levels)) (keeps_unary at fit levels)

-- what written tokens say as an expression is written again
pub keeps_expression : (at : Place) → NumbersFit at.names → (levels : ℕ) (wanted : Wanted) → Keeps (expression_form at levels wanted) IsOperand
keeps_expression at fit levels wanted = keeps_expression_of (unary_form at levels) (keeps_unary at fit levels) wanted
