-- An expression that fits is spelt by its canonical tokens.
use Rattle.std.proofs.Common.{◌≡◌, ℕ, zero, suc, inl, inr, Bool, true, false, ◌&&◌, not, nat_le, List, [], ◌∷◌, ◌++◌, length, Option, Some, None, refl, sym, ap, ◌∙◌, subst, append_assoc, if◌then◌else◌, arith}
use Rattle.std.specs.Option.{is_some, is_none}
use Rattle.std.proofs.lemmas.Bool.{and_parts}
use Rattle.std.proofs.lemmas.List.{length_push}
use Rattle.ixp_lang_tokens.specs.declared.fault.Cause.{Cause}
use Rattle.ixp_lang_tokens.specs.declared.token.Kind.TheVariants as kind
use Rattle.ixp_lang_tokens.specs.declared.token.Mark.TheVariants as mark
use Rattle.ixp_lang.specs.Trees.{ExprTree, literal, named, attribute, call, roa_check, pair, triple, set_literal, negation, conjunction, disjunction, comparison, ExprTrees, exprs_end, exprs_more, exprs}
use Rattle.ixp_lang.specs.declared.value.Value.{Value}
use Rattle.ixp_lang.specs.declared.value.Value.TheVariants as value
use Rattle.ixp_lang.specs.declared.value.SetLit.{SetLit}
use Rattle.ixp_lang.specs.declared.expr.Attr.{Attr}
use Rattle.ixp_lang_exprs.specs.declared.types.ValueType.{ValueType}
use Rattle.ixp_lang_exprs.specs.declared.types.ValueType.TheVariants.{Int, Bool as Truth, Ip, Prefix, Pair, Triple, State}
use Rattle.ixp_lang_exprs.specs.declared.env.Signature.{Signature}
use Rattle.ixp_lang_exprs.specs.declared.env.Declared.{Declared}
use Rattle.ixp_lang_exprs.specs.declared.env.Declared.TheVariants.{Table}
use Rattle.ixp_lang_exprs.specs.declared.context.Scope.{Scope}
use Rattle.ixp_lang_exprs.specs.Types.{same_type, attribute_type, takes_left, takes_right}
use Rattle.ixp_lang_exprs.specs.Names.{Names, value_of, function_of, is_define}
use Rattle.ixp_lang_exprs.specs.Sets.{if_missing}
use Rattle.ixp_lang_exprs.specs.Operands.{Operand, closed, literal_number, pair_with, triple_with, fits as fits_type}
use Rattle.ixp_lang_exprs.specs.Expressions.{plain, arguments, roa_values, fits_argument, no_parts, type_or, has_parts, operand_form, no_roa_table}
use Rattle.ixp_print.specs.Texts.{is_chain, is_compound, bool_text, state_text}
use Rattle.ixp_lang_laws.proofs.Basics.{sound, so_again, none_both, fits_again}
use Rattle.ixp_lang_laws.proofs.Parentheses.{at, Expressed}
use Rattle.ixp_lang_laws.proofs.Operators.{of_and, of_or, comparing, row_again}
use Rattle.ixp_lang_laws.proofs.Tokens.{of_truth, of_state, attribute_again}
use Rattle.ixp_lang_laws.proofs.Sets.{SetAgain}
use Rattle.ixp_lang_laws.proofs.Expressions.{flat, literal_case, set_case, value_case, level_left, ArgumentsAgain, call_spells, check_spells, tuple_spells, negation_spells}
use Rattle.ixp_lang_laws.specs.Sound.{is_left, is_small, value_fits, set_type, set_fits, returned, params_of, is_roa_table, type_of, fits, arguments_fit, parts_fit}
use Rattle.ixp_lang_laws.proofs.SoundLists.{and3, off, small_again, set_spelt}
use Rattle.ixp_lang_laws.proofs.SoundParts.{operand, part, AreParts, parts_with, parts_spelt, AllJoined, chained_of}

abbrev pub trees_of : ExprTrees → List ExprTree
trees_of exprs_end = []
trees_of (exprs_more e es) = e ∷ trees_of es

pub trees_again : (es : ExprTrees) → exprs (trees_of es) ≡ es
trees_again exprs_end = refl
trees_again (exprs_more e es) = ap (λ xs. exprs_more e xs) (trees_again es)

is_absent : {A : Type 0} (x : Option A) → is_none x ≡ true → x ≡ None
is_absent None e = refl
is_absent (Some a) e = absurd cc

is_present : {A : Type 0} (x : Option A) (fault : Cause × ℕ) → is_some x ≡ true → if_missing x fault ≡ None
is_present None fault e = absurd cc
is_present (Some a) fault e = refl

either_none : {A : Type 0} (b : Bool) (x : Option A) → x ≡ None → (if b then None else x) ≡ None
either_none true x e = refl
either_none false x e = e

pair_is : (a b : ExprTree) (x y : Option ℕ) → not (is_some x && is_some y) ≡ true → pair_with a b x y ≡ pair a b
pair_is a b (Some m) (Some n) e = absurd cc
pair_is a b (Some m) None e = refl
pair_is a b None y e = refl

triple_is : (a b c : ExprTree) (x y z : Option ℕ) → not (is_some x && is_some y && is_some z) ≡ true → triple_with a b c x y z ≡ triple a b c
triple_is a b c (Some l) (Some m) (Some n) e = absurd cc
triple_is a b c (Some l) (Some m) None e = refl
triple_is a b c (Some l) None z e = refl
triple_is a b c None y z e = refl

roa_known : (d : Option Declared) (left place : ℕ) → is_roa_table d ≡ true → no_roa_table d left place ≡ None
roa_known (Some (Table t)) left place e = so_again t.is_roa _ e
roa_known _ left place e = absurd cc

at_argument : (before : List ValueType) (p : ValueType) (ps : List ValueType) (is_last : Bool) (o : Operand) (place : ℕ)
    → fits_argument (before ++ p ∷ ps) (length before) is_last o place ≡ fits_argument (p ∷ ps) 0 is_last o place
at_argument [] p ps is_last o place = refl
at_argument (q ∷ []) p ps is_last o place = refl
at_argument (q ∷ r ∷ qs) p ps is_last o place = at_argument (r ∷ qs) p ps is_last o place

module _ (names : Names) (scope : Scope) where
  abbrev T : ExprTree → ValueType
  T = type_of names scope

  abbrev pub Fit : ℕ → ExprTree → Type 0
  Fit n e = Expressed names scope n e (type_of names scope e)

  level_same : (n : ℕ) (s : SetLit × ValueType) → SetAgain names (is_left n) s → SetAgain names (level_left names scope n) s
  level_same zero s again = again
  level_same (suc n) s again = again

  set_fit : (n : ℕ) (s : SetLit) → set_fits n s ≡ true → Fit n (set_literal s)
  set_fit n s fit = (set_case names scope n (closed (set_literal s) (set_type s)) (s, set_type s) refl (level_same n (s, set_type s) (set_spelt names n s fit))).0

  attribute_fit : (n : ℕ) (a : Attr) → is_define scope ≡ false → Fit n (attribute a)
  unfolding operand_form
  attribute_fit n a outside = (flat names scope n (attribute a) (attribute_type a) (has_parts a) refl (λ s wanted begins rest inner. inr (inr (inr (inr (inr (inl (attribute_again (at names scope s) wanted a outside begins rest)))))))).0

  -- Tuples.

  pair_parts : (n : ℕ) (a b : ExprTree) → Fit n a → Fit n b → same_type (T a) Int ≡ true → same_type (T b) Int ≡ true → is_small (literal_number a) ≡ true → is_small (literal_number b) ≡ true
      → AreParts names scope n plain (type_of names scope) [] (a ∷ b ∷ [])
  pair_parts n a b fa fb ta tb sa sb = (
    refl,
    fa,
    (λ first ty c left place. fits_again a (T a) Int c place ta),
    (
      refl,
      fb,
      λ first ty c left place. none_both _ _ (small_again (literal_number a) sa first) (none_both _ _ (small_again (literal_number b) sb left) (fits_again b (T b) Int c place tb)),
    ),
  )

  triple_parts : (n : ℕ) (a b c : ExprTree) → Fit n a → Fit n b → Fit n c → same_type (T a) Int ≡ true → same_type (T b) Int ≡ true → same_type (T c) Int ≡ true
      → AreParts names scope n plain (type_of names scope) [] (a ∷ b ∷ c ∷ [])
  triple_parts n a b c fa fb fc ta tb tc = (
    refl,
    fa,
    (λ first ty x left place. fits_again a (T a) Int x place ta),
    (refl, fb, (λ first ty x left place. fits_again b (T b) Int x place tb), (refl, fc, λ first ty x left place. fits_again c (T c) Int x place tc)),
  )

  int_fit : (n k : ℕ) → Fit n (literal (value.Int k))
  int_fit n k = (literal_case names scope n (closed (literal (value.Int k)) Int) (kind.Number k) refl).0

  value_fit : (n : ℕ) (v : Value) → value_fits n v ≡ true → Fit n (literal v)
  value_fit n (value.Int k) fit = int_fit n k
  value_fit n (value.Bool b) fit = (literal_case names scope n (closed (literal (value.Bool b)) Truth) (kind.Word (bool_text b)) (of_truth b)).0
  value_fit n (value.Ip a) fit = (literal_case names scope n (closed (literal (value.Ip a)) Ip) (kind.Addr a) refl).0
  value_fit n (value.Net p) fit = (literal_case names scope n (closed (literal (value.Net p)) Prefix) (kind.Prefix p) refl).0
  value_fit n (value.Roa s) fit = (literal_case names scope n (closed (literal (value.Roa s)) State) (kind.Word (state_text s)) (of_state s)).0
  value_fit n (value.Set s) fit = absurd cc
  value_fit zero (value.Pair a b) fit = absurd cc
  value_fit zero (value.Triple a b c) fit = absurd cc
  value_fit (suc n) (value.Pair a b) fit =
      let h : (nat_le a 65535 ≡ true) × (nat_le b 65535 ≡ true) = and_parts (nat_le a 65535) (nat_le b 65535) fit in
      (tuple_spells names scope n (parts_with names scope (literal (value.Int a) ∷ literal (value.Int b) ∷ []) 0 Int) (literal (value.Pair a b)) Pair (literal (value.Int a) ∷ literal (value.Int b) ∷ []) refl refl refl (λ rest. refl)
      (λ m w s place first ty rest. parts_spelt names scope n plain (type_of names scope) [] (literal (value.Int a) ∷ literal (value.Int b) ∷ []) (pair_parts n (literal (value.Int a)) (literal (value.Int b)) (int_fit n a) (int_fit n b) refl refl h.0 h.1) m w s place first ty rest)).0
  value_fit (suc n) (value.Triple a b c) fit =
      (tuple_spells names scope n (parts_with names scope (literal (value.Int a) ∷ literal (value.Int b) ∷ literal (value.Int c) ∷ []) 0 Int) (literal (value.Triple a b c)) Triple (literal (value.Int a) ∷ literal (value.Int b) ∷ literal (value.Int c) ∷ []) refl refl refl (λ rest. refl)
      (λ m w s place first ty rest. parts_spelt names scope n plain (type_of names scope) [] (literal (value.Int a) ∷ literal (value.Int b) ∷ literal (value.Int c) ∷ []) (triple_parts n (literal (value.Int a)) (literal (value.Int b)) (literal (value.Int c)) (int_fit n a) (int_fit n b) (int_fit n c) refl refl refl) m w s place first ty rest)).0

  pair_fit : (n : ℕ) (a b : ExprTree) → not (is_some (literal_number a) && is_some (literal_number b)) ≡ true → AreParts names scope n plain (type_of names scope) [] (a ∷ b ∷ []) → Fit (suc n) (pair a b)
  pair_fit n a b apart are =
      (tuple_spells names scope n (parts_with names scope (a ∷ b ∷ []) 0 (T b)) (pair a b) Pair (a ∷ b ∷ []) refl refl (ap (λ e. closed e Pair) (sym (pair_is a b (literal_number a) (literal_number b) apart))) (λ rest. refl)
      (λ m w s place first ty rest. parts_spelt names scope n plain (type_of names scope) [] (a ∷ b ∷ []) are m w s place first ty rest)).0

  triple_fit : (n : ℕ) (a b c : ExprTree) → not (is_some (literal_number a) && is_some (literal_number b) && is_some (literal_number c)) ≡ true → AreParts names scope n plain (type_of names scope) [] (a ∷ b ∷ c ∷ []) → Fit (suc n) (triple a b c)
  triple_fit n a b c apart are =
      (tuple_spells names scope n (parts_with names scope (a ∷ b ∷ c ∷ []) 0 (T c)) (triple a b c) Triple (a ∷ b ∷ c ∷ []) refl refl (ap (λ e. closed e Triple) (sym (triple_is a b c (literal_number a) (literal_number b) (literal_number c) apart))) (λ rest. refl)
      (λ m w s place first ty rest. parts_spelt names scope n plain (type_of names scope) [] (a ∷ b ∷ c ∷ []) are m w s place first ty rest)).0

  check_fit : (n : ℕ) (t : List ℕ) (a b : ExprTree) → is_define scope ≡ false → is_roa_table (names t) ≡ true → Fit n a → Fit n b → same_type (T a) Prefix ≡ true → same_type (T b) Int ≡ true → Fit (suc n) (roa_check t a b)
  check_fit n t a b outside known fa fb ta tb =
      (check_spells names scope n 0 0 t a b outside (roa_known (names t) 0 0 known)
      (λ m w s place first ty rest. (parts_with names scope (a ∷ b ∷ []) first (T b), refl, parts_spelt names scope n roa_values (type_of names scope) [] (a ∷ b ∷ []) are m w s place first ty rest))).0
    where
      are : AreParts names scope n roa_values (type_of names scope) [] (a ∷ b ∷ [])
      are = (refl, fa, (λ first ty c left place. fits_again a (T a) Prefix c place ta), (refl, fb, λ first ty c left place. fits_again b (T b) Int c place tb))

  named_fit : (n : ℕ) (x : List ℕ) → is_none (function_of (names x)) ≡ true → is_some (value_of scope (names x)) ≡ true → Fit n (named x)
  named_fit n x none found =
      (value_case names scope n (closed (named x) (type_or (value_of scope (names x)))) x 0 (either_none (is_define scope) (function_of (names x)) (is_absent (function_of (names x)) none)) (is_present (value_of scope (names x)) _ found) refl).0

  -- Arguments.

  argument_fits : (before : List ValueType) (p : ValueType) (ps : List ValueType) (is_last : Bool) (e : ExprTree) (i : ℕ) → length before ≡ i → ((o : Operand) (place : ℕ) → fits_type o p place ≡ None → fits_argument (p ∷ ps) 0 is_last o place ≡ None) → same_type (T e) p ≡ true
      → (b : Bool) (place : ℕ) → fits_argument (before ++ p ∷ ps) i is_last (sound e (T e) b) place ≡ None
  argument_fits before p ps is_last e i same fit truth b place =
      subst (λ j. fits_argument (before ++ p ∷ ps) j is_last (sound e (T e) b) place ≡ None) same
      (at_argument before p ps is_last (sound e (T e) b) place ∙ fit (sound e (T e) b) place (fits_again e (T e) p b place truth))

  call_fit : (n : ℕ) (x : List ℕ) (es : ExprTrees) (d : Option Signature) → function_of (names x) ≡ d → is_define scope ≡ false → is_some (returned d) ≡ true → ArgumentsAgain names scope n (params_of d) (parts_with names scope (trees_of es) 0 Truth)
      → Fit (suc n) (call x es)
  call_fit n x es None known outside found again = absurd cc
  call_fit n x es (Some signature) known outside found again = by_type signature.returns refl found
    where
      by_type : (r : Option ValueType) → signature.returns ≡ r → is_some r ≡ true → Fit (suc n) (call x es)
      by_type None returns found = absurd cc
      by_type (Some t) returns found =
          subst (λ xs. Expressed names scope (suc n) (call x xs) (type_of names scope (call x es))) (trees_again es)
          (subst (λ d. Expressed names scope (suc n) (call x (exprs (trees_of es))) (type_or (returned d))) (sym known)
          (call_spells names scope n x signature t (parts_with names scope (trees_of es) 0 Truth) (ap (λ b. if b then None else function_of (names x)) outside ∙ known) returns again).0)

  some_arguments : (n : ℕ) (p : ValueType) (ps : List ValueType) (e : ExprTree) (es : List ExprTree) → AreParts names scope n (arguments (p ∷ ps)) (type_of names scope) [] (e ∷ es)
      → ArgumentsAgain names scope n (p ∷ ps) (parts_with names scope (e ∷ es) 0 Truth)
  some_arguments n p ps e es are m w s place rest =
      (_, refl, inr (parts_spelt names scope n (arguments (p ∷ ps)) (type_of names scope) [] (e ∷ es) are m w s place _ Truth rest))

  row : (n : ℕ) (joined : ExprTrees → ExprTree) (es : List ExprTree) (all : ExprTrees) → exprs es ≡ all → Expressed names scope n (joined (exprs es)) Truth → Expressed names scope n (joined all) Truth
  row n joined es all same fit = subst (λ xs. Expressed names scope n (joined xs) Truth) same fit

  pub all_arguments : (n : ℕ) (ps : List ValueType) (es : ExprTrees) → arguments_fit names scope n ps es ≡ true
      → ((p : ValueType) (others : List ValueType) → arguments_fit names scope n (p ∷ others) es ≡ true → AreParts names scope n (arguments (p ∷ others)) (type_of names scope) [] (trees_of es))
      → ArgumentsAgain names scope n ps (parts_with names scope (trees_of es) 0 Truth)
  all_arguments n [] exprs_end fit are = λ m w s place rest. (no_parts _, refl, inl (tt, _, (refl, refl), (refl, refl)))
  all_arguments n [] (exprs_more e es) fit are = absurd cc
  all_arguments n (p ∷ ps) exprs_end fit are = absurd cc
  all_arguments n (p ∷ ps) (exprs_more e es) fit are = some_arguments n p ps e (trees_of es) (are p ps fit)

  mutual
    pub spelt : (n : ℕ) (e : ExprTree) → fits names scope n e ≡ true → Fit n e
    spelt n (literal v) fit = value_fit n v fit
    spelt n (named x) fit = (let h : (is_none (function_of (names x)) ≡ true) × (is_some (value_of scope (names x)) ≡ true) = and_parts _ _ fit in named_fit n x h.0 h.1)
    spelt n (attribute a) fit = attribute_fit n a (off (is_define scope) fit)
    spelt n (set_literal s) fit = set_fit n s fit
    spelt zero (call x es) fit = absurd (let h : false ≡ true = (and3 (not (is_define scope)) (is_some (returned (function_of (names x)))) false fit).2 in let f : ⊥ = cc in f)
    spelt (suc n) (call x es) fit =
        (let h = and3 (not (is_define scope)) (is_some (returned (function_of (names x)))) (arguments_fit names scope n (params_of (function_of (names x))) es) fit in
        call_fit n x es (function_of (names x)) refl (off (is_define scope) h.0) h.1 (all_arguments n (params_of (function_of (names x))) es h.2 (λ p ps f. more_arguments n [] p ps [] es refl f)))
    spelt zero (roa_check t a b) fit = absurd (let h : false ≡ true = (and_parts (not (is_define scope) && is_roa_table (names t) && same_type (T a) Prefix && same_type (T b) Int) false fit).1 in let f : ⊥ = cc in f)
    spelt (suc n) (roa_check t a b) fit =
        (let h = and_parts (not (is_define scope) && is_roa_table (names t) && same_type (T a) Prefix && same_type (T b) Int) (fits names scope n a && fits names scope n b) fit in
        let k = and3 (not (is_define scope) && is_roa_table (names t)) (same_type (T a) Prefix) (same_type (T b) Int) h.0 in
        let o = and_parts (not (is_define scope)) (is_roa_table (names t)) k.0 in
        let f = and_parts (fits names scope n a) (fits names scope n b) h.1 in
        check_fit n t a b (off (is_define scope) o.0) o.1 (spelt n a f.0) (spelt n b f.1) k.1 k.2)
    spelt zero (pair a b) fit = absurd (let h : false ≡ true = (and_parts (not (is_some (literal_number a) && is_some (literal_number b)) && is_small (literal_number a) && is_small (literal_number b) && same_type (T a) Int && same_type (T b) Int) false fit).1 in let f : ⊥ = cc in f)
    spelt (suc n) (pair a b) fit =
        (let h = and3 (not (is_some (literal_number a) && is_some (literal_number b)) && is_small (literal_number a) && is_small (literal_number b) && same_type (T a) Int) (same_type (T b) Int) (fits names scope n a && fits names scope n b) fit in
        let k = and3 (not (is_some (literal_number a) && is_some (literal_number b)) && is_small (literal_number a)) (is_small (literal_number b)) (same_type (T a) Int) h.0 in
        let o = and_parts (not (is_some (literal_number a) && is_some (literal_number b))) (is_small (literal_number a)) k.0 in
        let f = and_parts (fits names scope n a) (fits names scope n b) h.2 in
        pair_fit n a b o.0 (pair_parts n a b (spelt n a f.0) (spelt n b f.1) k.2 h.1 o.1 k.1))
    spelt zero (triple a b c) fit = absurd (let h : false ≡ true = (and_parts (not (is_some (literal_number a) && is_some (literal_number b) && is_some (literal_number c)) && same_type (T a) Int && same_type (T b) Int && same_type (T c) Int) false fit).1 in let f : ⊥ = cc in f)
    spelt (suc n) (triple a b c) fit =
        (let h = and3 (not (is_some (literal_number a) && is_some (literal_number b) && is_some (literal_number c)) && same_type (T a) Int && same_type (T b) Int) (same_type (T c) Int) (fits names scope n a && fits names scope n b && fits names scope n c) fit in
        let k = and3 (not (is_some (literal_number a) && is_some (literal_number b) && is_some (literal_number c))) (same_type (T a) Int) (same_type (T b) Int) h.0 in
        let f = and3 (fits names scope n a) (fits names scope n b) (fits names scope n c) h.2 in
        triple_fit n a b c k.0 (triple_parts n a b c (spelt n a f.0) (spelt n b f.1) (spelt n c f.2) k.1 k.2 h.1))
    spelt zero (negation e) fit = absurd (let h : false ≡ true = (and_parts (same_type (T e) Truth) false fit).1 in let f : ⊥ = cc in f)
    spelt (suc n) (negation e) fit =
        (let h = and_parts (same_type (T e) Truth) _ fit in
        (negation_spells names scope n e (T e) h.0 (operand names scope n e (T e) (λ k. fits names scope k e) (is_compound e) refl h.1 (λ k f. spelt k e f))).0)
    spelt n (conjunction (exprs_more a (exprs_more b es))) fit =
        (let all = all_joined n (exprs_more a (exprs_more b es)) fit in
        row n conjunction (a ∷ b ∷ trees_of es) (exprs_more a (exprs_more b es)) (trees_again (exprs_more a (exprs_more b es)))
        (row_again names scope mark.And mark.Or conjunction of_and n (closed a (T a)) (sound (conjunction (exprs (a ∷ b ∷ trees_of es))) Truth false) all.1 all.0 (chained_of names scope mark.And mark.Or conjunction of_and n (type_of names scope) (a ∷ []) b (trees_of es) all.2)))
    spelt n (conjunction (exprs_more a exprs_end)) fit = absurd cc
    spelt n (conjunction exprs_end) fit = absurd cc
    spelt n (disjunction (exprs_more a (exprs_more b es))) fit =
        (let all = all_joined n (exprs_more a (exprs_more b es)) fit in
        row n disjunction (a ∷ b ∷ trees_of es) (exprs_more a (exprs_more b es)) (trees_again (exprs_more a (exprs_more b es)))
        (row_again names scope mark.Or mark.And disjunction of_or n (closed a (T a)) (sound (disjunction (exprs (a ∷ b ∷ trees_of es))) Truth false) all.1 all.0 (chained_of names scope mark.Or mark.And disjunction of_or n (type_of names scope) (a ∷ []) b (trees_of es) all.2)))
    spelt n (disjunction (exprs_more a exprs_end)) fit = absurd cc
    spelt n (disjunction exprs_end) fit = absurd cc
    spelt n (comparison o a b) fit =
        (let h = and3 (takes_left o (T a) && takes_right o (T a) (T b)) _ _ fit in
        let k = and_parts (takes_left o (T a)) (takes_right o (T a) (T b)) h.0 in
        (comparing names scope n o a b (T a) (T b) k.0 k.1
        (operand names scope n a (T a) (λ k. fits names scope k a) (is_compound a) refl h.1 (λ k f. spelt k a f))
        (operand names scope n b (T b) (λ k. fits names scope k b) (is_compound b) refl h.2 (λ k f. spelt k b f))).0)

    pub more_arguments : (n : ℕ) (earlier : List ValueType) (p : ValueType) (ps : List ValueType) (before : List ExprTree) (es : ExprTrees) → length earlier ≡ length before → arguments_fit names scope n (p ∷ ps) es ≡ true
        → AreParts names scope n (arguments (earlier ++ p ∷ ps)) (type_of names scope) before (trees_of es)
    more_arguments n earlier p ps before exprs_end same fit = absurd cc
    more_arguments n earlier p [] before (exprs_more e exprs_end) same fit =
        (let h = and3 (same_type (T e) p) (fits names scope n e) true fit in
        (refl, spelt n e h.1, λ first ty b left place. argument_fits earlier p [] true e (length before) same (λ o place f. none_both _ _ f refl) h.0 b place))
    more_arguments n earlier p (q ∷ ps) before (exprs_more e exprs_end) same fit = absurd (let h : false ≡ true = (and3 (same_type (T e) p) (fits names scope n e) false fit).2 in let f : ⊥ = cc in f)
    more_arguments n earlier p [] before (exprs_more e (exprs_more f es)) same fit = absurd (let h : false ≡ true = (and3 (same_type (T e) p) (fits names scope n e) false fit).2 in let f : ⊥ = cc in f)
    more_arguments n earlier p (q ∷ ps) before (exprs_more e (exprs_more f es)) same fit =
        (let h = and3 (same_type (T e) p) (fits names scope n e) (arguments_fit names scope n (q ∷ ps) (exprs_more f es)) fit in
        let longer : length (earlier ++ p ∷ []) ≡ length (before ++ e ∷ []) = omega (arith, length_push earlier p, length_push before e, same) in (
          refl,
          spelt n e h.1,
          (λ first ty b left place. argument_fits earlier p (q ∷ ps) false e (length before) same (λ o place f. none_both _ _ f refl) h.0 b place),
          subst (λ params. AreParts names scope n (arguments params) (type_of names scope) (before ++ e ∷ []) (f ∷ trees_of es)) (append_assoc earlier (p ∷ []) (q ∷ ps)) (more_arguments n (earlier ++ p ∷ []) q ps (before ++ e ∷ []) (exprs_more f es) longer h.2),
        ))

    all_joined : (n : ℕ) (es : ExprTrees) → parts_fit names scope n es ≡ true → AllJoined names scope n (type_of names scope) (trees_of es)
    all_joined n exprs_end fit = tt
    all_joined n (exprs_more e es) fit =
        (let h = and3 (same_type (T e) Truth) _ (parts_fit names scope n es) fit in
        (part names scope n e (T e) (λ k. fits names scope k e) (is_chain e) refl h.1 (λ k f. spelt k e f), h.0, all_joined n es h.2))
