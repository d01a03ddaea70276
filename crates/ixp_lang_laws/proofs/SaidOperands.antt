-- What a text spells as an operand fits, and so does each expression.
use Rattle.std.proofs.Common.{◌≡◌, ◌⊎◌, ℕ, zero, suc, inl, inr, Bool, true, false, ◌&&◌, not, List, [], ◌∷◌, Option, Some, None, option_map, refl, sym, ap, subst, if◌then◌else◌}
use Rattle.std.specs.Option.{is_some, is_none}
use Rattle.ixp_num.specs.declared.roa.Validity.{Validity}
use Rattle.ixp_lang.specs.Trees.{ExprTree, literal, named, attribute, call, roa_check, set_literal, exprs}
use Rattle.ixp_lang.specs.declared.value.SetLit.{SetLit}
use Rattle.ixp_lang.specs.declared.value.Value.TheVariants as value
use Rattle.ixp_lang.specs.declared.expr.Attr.{Attr}
use Rattle.ixp_lang_tokens.specs.declared.fault.Cause.{Cause}
use Rattle.ixp_lang_tokens.specs.declared.token.Kind.{Kind}
use Rattle.ixp_lang_tokens.specs.declared.token.Kind.TheVariants as kind
use Rattle.ixp_lang_tokens.specs.declared.token.Mark.{Mark}
use Rattle.ixp_lang_tokens.specs.declared.token.Mark.TheVariants as mark
use Rattle.ixp_lang_tokens.specs.Grammars.{Grammar}
use Rattle.ixp_lang_exprs.specs.declared.types.ValueType.{ValueType}
use Rattle.ixp_lang_exprs.specs.declared.types.ValueType.TheVariants.{Bool as Truth, Int, Ip, Prefix, State}
use Rattle.ixp_lang_exprs.specs.declared.env.Signature.{Signature}
use Rattle.ixp_lang_exprs.specs.declared.env.Declared.{Declared}
use Rattle.ixp_lang_exprs.specs.declared.env.Declared.TheVariants.{Table, Define, Parameter}
use Rattle.ixp_lang_exprs.specs.declared.context.Scope.{Scope}
use Rattle.ixp_lang_exprs.specs.Names.{Names, value_of, function_of, is_define}
use Rattle.ixp_lang_exprs.specs.Sets.{if_missing}
use Rattle.ixp_lang_exprs.specs.Operands.{Operand, closed, anything}
use Rattle.ixp_lang_exprs.specs.declared.wanted.Wanted.{Wanted}
use Rattle.ixp_lang_exprs.specs.Expressions.{Place, truth_in, state_in, literal_word, literal_in, word_in, attribute_in, attribute_form, has_parts, type_or, named_value, check_tree, expression_of, no_roa_table, roa_table, called, outside_define, check_word, Deeper, nothing, deeper, is_left, opened, negation_form, plain_form, name_form, named_form, checked_form, check_form, set_form, operand_form, unary_form, expression_form}
use Rattle.ixp_lang_laws.specs.Sound.{is_left as a_level_left, is_roa_table, returned, params_of, arguments_fit}
use Rattle.ixp_lang_laws.proofs.SaidBasics.{Within, both, is_off, is_so, is_there, mapped, either_some}
use Rattle.ixp_lang_laws.proofs.Saying.{Says, says_gives, says_takes, says_token, says_sequence, says_then, says_choice, says_checks, says_bars, says_here, says_mark, says_name, says_never, says_only}
use Rattle.ixp_lang_laws.proofs.SaidSets.{IsSet, says_elements}
use Rattle.ixp_lang_laws.proofs.SaidExpressions.{Whole, Alone, Sound, Settled, Of, negated_sound, says_expression_of}
use Rattle.ixp_lang_laws.proofs.SaidParentheses.{Arguments, Values, says_plain, says_arguments, says_values}

-- Names.

known_value : (s : Scope) (d : Option Declared) (fault : Cause × ℕ) → if_missing (value_of s d) fault ≡ None → (is_none (function_of d) && is_some (value_of s d)) ≡ true
known_value s (Some (Define ty number)) fault e = refl
known_value s (Some (Parameter function ty)) fault e = is_there (value_of s (Some (Parameter function ty))) fault e
known_value s _ fault e = absurd cc

known_table : (d : Option Declared) (left place : ℕ) → no_roa_table d left place ≡ None → is_roa_table d ≡ true
known_table None left place e = absurd cc
known_table (Some (Parameter function ty)) left place e = absurd cc
known_table (Some (Table table)) left place e = is_so table.is_roa _ e
known_table (Some _) left place e = absurd cc

-- a function that an expression may call is known, and no definition calls it
known_function : (define : Bool) (d : Option Signature) (s : Signature) → (if define then None else d) ≡ Some s → (define ≡ false) × (d ≡ Some s)
known_function true d s e = absurd cc
known_function false d s e = (refl, e)

-- the word stands in no definition
abbrev Outside : Place → Type 0
Outside at = is_define at.scope ≡ false

outside : {A : Type 0} (at : Place) (class : List ℕ → Option A) (k : Kind) (v : A) → word_in (outside_define at class) k ≡ Some v → Outside at
outside {A} at class (kind.Word w) v e = by_case (is_define at.scope) e
  where
    by_case : (b : Bool) → (if b then None else class w) ≡ Some v → b ≡ false
    by_case true e = absurd cc
    by_case false e = refl
outside at class _ v e = absurd cc

module _ (names : Names) (scope : Scope) where
  -- an operand that fits alone
  abbrev pub Lone : ℕ → Operand → Type 0
  Lone n = Settled names scope (Alone names scope n)

  -- of one token
  word_says : (n : ℕ) (w : List ℕ) (o : Operand) → literal_word w ≡ Some o → Lone n o
  word_says n w o e = by_case (either_some _ _ o e)
    where
      by_truth : (b : Bool) × (o ≡ closed (literal (value.Bool b)) Truth) → Lone n o
      by_truth (b, is) = subst (Lone n) (sym is) (refl, refl, ((λ m w. refl), (λ m w. refl), (λ m w. refl)))

      by_state : (s : Validity) × (o ≡ closed (literal (value.Roa s)) State) → Lone n o
      by_state (s, is) = subst (Lone n) (sym is) (refl, refl, ((λ m w. refl), (λ m w. refl), (λ m w. refl)))

      by_case : (option_map (λ b. closed (literal (value.Bool b)) Truth) (truth_in w) ≡ Some o) ⊎ (option_map (λ s. closed (literal (value.Roa s)) State) (state_in w) ≡ Some o) → Lone n o
      by_case (inl is) = by_truth (mapped _ (truth_in w) o is)
      by_case (inr is) = by_state (mapped _ (state_in w) o is)

  literal_says : (n : ℕ) (k : Kind) (o : Operand) → literal_in k ≡ Some o → Lone n o
  literal_says n (kind.Number i) o e = (let h : closed (literal (value.Int i)) Int ≡ o = cc in subst (Lone n) h (refl, refl, ((λ m w. refl), (λ m w. refl), (λ m w. refl))))
  literal_says n (kind.Addr a) o e = (let h : closed (literal (value.Ip a)) Ip ≡ o = cc in subst (Lone n) h (refl, refl, ((λ m w. refl), (λ m w. refl), (λ m w. refl))))
  literal_says n (kind.Prefix p) o e = (let h : closed (literal (value.Net p)) Prefix ≡ o = cc in subst (Lone n) h (refl, refl, ((λ m w. refl), (λ m w. refl), (λ m w. refl))))
  literal_says n (kind.Word w) o e = word_says n w o e
  literal_says n _ o e = absurd cc

  attribute_fits : (n : ℕ) (a : Attr) → is_define scope ≡ false → Whole names scope n (attribute a)
  attribute_fits n a out m w = is_off (is_define scope) out

  says_attribute : (n : ℕ) (wanted : Wanted) (a : Attr) → is_define scope ≡ false → Says (attribute_form wanted a) (Lone n)
  says_attribute n wanted a out =
      says_checks (λ hope.
      says_choice
      (says_only (has_parts a) (says_then (says_mark mark.Dot) (λ x. says_then (says_token _) (λ part. says_gives (refl, refl, (attribute_fits n part out, attribute_fits n part out, attribute_fits n part out))))))
      (says_gives (refl, refl, (attribute_fits n a out, attribute_fits n a out, attribute_fits n a out))))

  -- Calls and checks.

  call_fits : (n : ℕ) (name : List ℕ) (es : List ExprTree) (s : Signature) → is_define scope ≡ false → function_of (names name) ≡ Some s → is_some s.returns ≡ true → Arguments names scope n s.params es
      → Whole names scope (suc n) (call name (exprs es))
  call_fits n name es s out known returns all zero w = absurd w
  call_fits n name es s out known returns all (suc m) w =
      subst (λ d. (not (is_define scope) && is_some (returned d) && arguments_fit names scope m (params_of d) (exprs es)) ≡ true) (sym known) (both (both (is_off (is_define scope) out) returns) (all m w))

  call_sound : (n : ℕ) (name : List ℕ) (es : List ExprTree) (s : Signature) → is_define scope ≡ false → function_of (names name) ≡ Some s → is_some s.returns ≡ true → Arguments names scope n s.params es
      → Lone (suc n) (closed (call name (exprs es)) (type_or s.returns))
  call_sound n name es s out known returns all = (
    ap (λ d. type_or (returned d)) known,
    refl,
    (let whole = call_fits n name es s out known returns all in
        (whole, whole, whole)),
  )

  check_fits : (n : ℕ) (table : List ℕ) (a b : ExprTree) → is_define scope ≡ false → is_roa_table (names table) ≡ true → Of names scope Prefix n a → Of names scope Int n b → Whole names scope (suc n) (roa_check table a b)
  check_fits n table a b out known one two zero w = absurd w
  check_fits n table a b out known one two (suc m) w = both (both (both (both (is_off (is_define scope) out) known) one.0) two.0) (both (one.1 m w) (two.1 m w))

  check_sound : (n : ℕ) (table : List ℕ) (es : List ExprTree) → is_define scope ≡ false → is_roa_table (names table) ≡ true → Values names scope n es → Lone (suc n) (closed (check_tree table es) State)
  check_sound n table [] out known values = absurd values
  check_sound n table (a ∷ []) out known values = absurd values
  check_sound n table (a ∷ b ∷ es) out known (one, two) = (
    refl,
    refl,
    (let whole = check_fits n table a b out known one two in
        (whole, whole, whole)),
  )

  -- Levels.

  -- what stands alone fits below, where there is a level
  abbrev Below : ℕ → Deeper → Type 0
  Below n nothing = Unit {0}
  Below zero (deeper unary) = ⊥
  Below (suc n) (deeper unary) = (wanted : Wanted) → Says (unary wanted) (Lone n)

  says_opened : {A : Type 0} (m : Mark) (n : ℕ) (inner : Deeper) (f : (Wanted → Grammar Operand) → Grammar A) (P : ℕ → A → Type 0) → Below n inner → ((k : ℕ) (unary : Wanted → Grammar Operand) → ((wanted : Wanted) → Says (unary wanted) (Lone k)) → Says (f unary) (P (suc k)))
      → Says (opened m inner f) (P n)
  says_opened m n nothing f P below kf = says_bars says_never
  says_opened m zero (deeper unary) f P below kf = absurd below
  says_opened m (suc n) (deeper unary) f P below kf = says_then (says_mark m) (λ x. kf n unary below)

  left_again : (n : ℕ) (inner : Deeper) → Below n inner → is_left inner ≡ true → (m : ℕ) → Within n m → a_level_left m ≡ true
  left_again n nothing below left m w = absurd cc
  left_again zero (deeper unary) below left m w = absurd below
  left_again (suc n) (deeper unary) below left zero w = absurd w
  left_again (suc n) (deeper unary) below left (suc m) w = refl

module _ (at : Place) (n : ℕ) (inner : Deeper) (below : Below at.names at.scope n inner) where
  says_negation : Says (negation_form inner) (Lone at.names at.scope n)
  says_negation =
      says_here (λ place.
      says_opened at.names at.scope mark.Not n inner _ (Lone at.names at.scope) below (λ k unary ku.
      says_sequence (ku anything) (λ o one. says_checks (λ now. says_gives (negated_sound at.names at.scope k o place one now)))))

  says_enclosed : Says (plain_form at inner) (Lone at.names at.scope n)
  says_enclosed =
      says_opened at.names at.scope mark.Open n inner _ (Lone at.names at.scope) below (λ k unary ku.
      says_sequence (says_plain at.names at.scope k (expression_of unary) (says_expression_of at.names at.scope k unary ku) at at.statement) (λ parts all. says_gives all))

  says_value : (name : List ℕ) (left : ℕ) → Says (named_value at name left) (Lone at.names at.scope n)
  says_value name left =
      says_checks (λ found.
      let whole : Whole at.names at.scope n (named name) = (λ m w. known_value at.scope (at.names name) _ found) in
      says_gives (refl, refl, (whole, whole, whole)))

  says_name_text : (name : List ℕ) (place : ℕ) (d : Option Signature) → called at name ≡ d → Says (name_form at inner name place d) (Lone at.names at.scope n)
  says_name_text name place None known = says_value name place
  says_name_text name place (Some s) known =
      says_checks (λ returns.
      let f = known_function (is_define at.scope) (function_of (at.names name)) s known in
      says_opened at.names at.scope mark.Open n inner _ (Lone at.names at.scope) below (λ k unary ku.
      says_sequence (says_arguments at.names at.scope k (expression_of unary) (says_expression_of at.names at.scope k unary ku) at s.params place) (λ parts all.
      says_gives (call_sound at.names at.scope k name parts.trees s f.0 f.1 (is_there s.returns _ returns) all))))

  says_named : Says (named_form at inner) (Lone at.names at.scope n)
  says_named = says_here (λ place. says_then says_name (λ name. says_name_text name place (called at name) refl))

  says_table : (place : ℕ) → Says (roa_table at place) (λ table. is_roa_table (at.names table) ≡ true)
  says_table place = says_here (λ left. says_then says_name (λ name. says_checks (λ known. says_gives (known_table (at.names name) left place known))))

  says_checked : (place : ℕ) → Outside at → Says (checked_form at inner place) (Lone at.names at.scope n)
  says_checked place out =
      says_opened at.names at.scope mark.Open n inner _ (Lone at.names at.scope) below (λ k unary ku.
      says_sequence (says_table place) (λ table known.
      says_then (says_mark mark.Comma) (λ x.
      says_sequence (says_values at.names at.scope k (expression_of unary) (says_expression_of at.names at.scope k unary ku) at place) (λ parts values.
      says_gives (check_sound at.names at.scope k table parts.trees out known values)))))

  says_check : Says (check_form at inner) (Lone at.names at.scope n)
  says_check = says_here (λ place. says_sequence (says_takes (outside at check_word)) (λ x out. says_checked place out))

  set_sound : (s : SetLit × ValueType) → IsSet (is_left inner) s → Lone at.names at.scope n (closed (set_literal s.0) s.1)
  set_sound s is = (
    is.0,
    refl,
    (let whole : Whole at.names at.scope n (set_literal s.0) = (λ m w. is.1 m (λ left. left_again at.names at.scope n inner below left m w)) in
        (whole, whole, whole)),
  )

  says_set : Says (set_form at inner) (Lone at.names at.scope n)
  says_set = says_then (says_mark mark.SetOpen) (λ x. says_sequence (says_elements at.names (is_left inner)) (λ s is. says_gives (set_sound s is)))

  says_operand : (wanted : Wanted) → Says (operand_form at inner wanted) (Lone at.names at.scope n)
  unfolding operand_form
  says_operand wanted =
      says_choice says_negation
      (says_choice says_enclosed
      (says_choice says_check
      (says_choice says_named
      (says_choice (says_takes (literal_says at.names at.scope n))
      (says_choice (says_sequence (says_takes (outside at attribute_in)) (λ a out. says_attribute at.names at.scope n wanted a out))
      says_set)))))

says_unary : (at : Place) (n : ℕ) (wanted : Wanted) → Says (unary_form at n wanted) (Lone at.names at.scope n)
says_unary at zero = says_operand at zero nothing tt
says_unary at (suc n) = says_operand at (suc n) (deeper (unary_form at n)) (says_unary at n)

-- an expression that a text spells fits, with as many levels or more
pub says_expression : (at : Place) (n : ℕ) (wanted : Wanted) → Says (expression_form at n wanted) (Sound at.names at.scope (Whole at.names at.scope n))
says_expression at n wanted = says_expression_of at.names at.scope n (unary_form at n) (says_unary at n) wanted
