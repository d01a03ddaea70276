-- Expressions are spelt by their canonical tokens.
use Rattle.std.proofs.Common.{◌≡◌, ℕ, zero, suc, inl, inr, Bool, true, false, List, [], ◌∷◌, codes, Option, Some, None, length, refl, sym, ap, ◌∙◌, subst}
use Rattle.ixp_lang_tokens.specs.declared.token.Kind.{Kind}
use Rattle.ixp_lang_tokens.specs.declared.token.Kind.TheVariants as kind
use Rattle.ixp_lang_tokens.specs.declared.token.Mark.TheVariants as mark
use Rattle.ixp_lang_tokens.specs.declared.fault.Cause.{Cause}
use Rattle.ixp_lang_tokens.specs.Grammars.{gives, sequence, Rounds, Took}
use Rattle.ixp_lang_tokens.specs.Pieces.{the_mark}
use Rattle.ixp_lang.specs.Trees.{ExprTree, literal, named, attribute, call, roa_check, pair, triple, set_literal, negation, exprs}
use Rattle.ixp_lang.specs.declared.value.Value.TheVariants as value
use Rattle.ixp_lang.specs.declared.value.SetLit.{SetLit}
use Rattle.ixp_lang.specs.declared.expr.Attr.{Attr}
use Rattle.ixp_lang_exprs.specs.declared.types.ValueType.{ValueType}
use Rattle.ixp_lang_exprs.specs.declared.types.ValueType.TheVariants.{Bool as Truth, Pair, Triple, State}
use Rattle.ixp_lang_exprs.specs.declared.env.Signature.{Signature}
use Rattle.ixp_lang_exprs.specs.declared.env.Declared.{Declared}
use Rattle.ixp_lang_exprs.specs.declared.env.Declared.TheVariants.{Table, Parameter}
use Rattle.ixp_lang_exprs.specs.declared.context.Scope.{Scope}
use Rattle.ixp_lang_exprs.specs.declared.wanted.Wanted.{Wanted}
use Rattle.ixp_lang_exprs.specs.Types.{same_type, attribute_type}
use Rattle.ixp_lang_exprs.specs.Names.{Names, value_of, is_define}
use Rattle.ixp_lang_exprs.specs.Sets.{if_missing}
use Rattle.ixp_lang_exprs.specs.Operands.{Operand, closed, anything, pair_tree, triple_tree, misfit_at}
use Rattle.ixp_lang_exprs.specs.Expressions.{Place, plain, arguments, roa_values, Parts, no_parts, part_form, enclosed, plain_tree, plain_operand, check_tree, check_word, no_roa_table, roa_table, called, type_or, no_value, negation_form, plain_form, call_form, name_form, operand_form, unary_form, expression_form, expression_of, literal_in, attribute_in, attribute_form, has_parts, Deeper, nothing, deeper, is_left, opened}
use Rattle.ixp_print.specs.Texts.{is_compound}
use Rattle.ixp_lang_laws.specs.Canonical.{expr_tokens, exprs_tokens, set_tokens, sign}
use Rattle.ixp_lang_laws.proofs.Basics.{Within, sound, Begins, took_token, never_took, there, there_again, so_again, is_so}
use Rattle.ixp_lang_laws.proofs.Parentheses.{at, Again, Renewed, Going, Lone, parts_again, same_parts}
use Rattle.ixp_lang_laws.proofs.Operators.{Alone, Single, single_plain, single_enclosed, expressed_again}
use Rattle.ixp_lang_laws.proofs.Tokens.{OneToken, literal_again, outside_again, outside_is, is_attribute, attribute_is, attribute_again}
use Rattle.ixp_lang_laws.proofs.Sets.{SetAgain, set_again}

-- Tuples of literals are literals, of the same tokens.

pair_same : (a b : ExprTree) (rest : List Kind) → expr_tokens (pair_tree a b) rest ≡ expr_tokens (pair a b) rest
pair_same (literal (value.Int m)) (literal (value.Int n)) rest = refl
pair_same _ _ rest = refl

triple_same : (a b c : ExprTree) (rest : List Kind) → expr_tokens (triple_tree a b c) rest ≡ expr_tokens (triple a b c) rest
triple_same (literal (value.Int l)) (literal (value.Int m)) (literal (value.Int n)) rest = refl
triple_same _ _ _ rest = refl

pair_simple : (a b : ExprTree) → is_compound (pair_tree a b) ≡ false
pair_simple (literal (value.Int m)) (literal (value.Int n)) = refl
pair_simple _ _ = refl

triple_simple : (a b c : ExprTree) → is_compound (triple_tree a b c) ≡ false
triple_simple (literal (value.Int l)) (literal (value.Int m)) (literal (value.Int n)) = refl
triple_simple _ _ _ = refl

-- at every level
any_level : (at : Place) (wanted : Wanted) (o : Operand) (ts rest : List Kind) → ((inner : Deeper) → Took (operand_form at inner wanted) o ts rest) → (m : ℕ) → Took (unary_form at m wanted) o ts rest
any_level at wanted o ts rest took zero = took nothing
any_level at wanted o ts rest took (suc m) = took (deeper (unary_form at m))

no_table_again : (d : Option Declared) (left other place elsewhere : ℕ) → no_roa_table d left place ≡ None → no_roa_table d other elsewhere ≡ None
no_table_again None left other place elsewhere e = absurd cc
no_table_again (Some (Table table)) left other place elsewhere e = so_again _ _ (is_so _ _ e)
no_table_again (Some (Parameter f t)) left other place elsewhere e = absurd cc
no_table_again (Some _) left other place elsewhere e = absurd cc

module _ (names : Names) (scope : Scope) where
  abbrev AloneAgain : ℕ → Type 0
  AloneAgain n = (s : ℕ) (wanted : Wanted) (o : Operand) (ts rest : List Kind) → Took (unary_form (at names scope s) n wanted) o ts rest → Single names scope n o.tree o.ty

  abbrev Says : ℕ → Operand → Type 0
  Says n o = Single names scope n o.tree o.ty

  -- what needs no level
  pub flat : (n : ℕ) (e : ExprTree) (t : ValueType) (b : Bool) → is_compound e ≡ false → ((s : ℕ) (wanted : Wanted) → Begins wanted t → (rest : List Kind) (inner : Deeper) → Took (operand_form (at names scope s) inner wanted) (sound e t b) (expr_tokens e rest) rest)
      → Single names scope n e t
  flat n e t b simple reads = single_plain names scope n e t simple (λ m w. (b, λ s wanted begins rest. any_level (at names scope s) wanted (sound e t b) (expr_tokens e rest) rest (reads s wanted begins rest) m))

  pub literal_case : (n : ℕ) (o : Operand) (k : Kind) → literal_in k ≡ Some o → Says n o
  unfolding operand_form
  literal_case n o k e = by_token (literal_again k o e)
    where
      by_token : OneToken o → Says n o
      by_token (v, t, is, token, known, tokens) =
          subst (λ x. Says n x) (sym is) (flat n (literal v) t false refl (λ s wanted begins rest inner.
          subst (λ ts. Took (operand_form (at names scope s) inner wanted) (sound (literal v) t false) ts rest) (sym (tokens rest)) (inr (inr (inr (inr (inl (known, refl))))))))

  attribute_case : (n s : ℕ) (wanted : Wanted) (o : Operand) (a : Attr) (ts rest : List Kind) → is_define scope ≡ false → Took (attribute_form wanted a) o ts rest → Says n o
  unfolding operand_form
  attribute_case n s wanted o a ts rest outside took = by_attribute (attribute_is wanted a o ts rest took)
    where
      by_attribute : is_attribute o → Says n o
      by_attribute (b, tree, ty) =
          subst (λ e. Single names scope n e o.ty) (sym tree) (subst (λ t. Single names scope n (attribute b) t) (sym ty)
          (flat n (attribute b) (attribute_type b) (has_parts b) refl (λ s other begins rest inner. inr (inr (inr (inr (inr (inl (attribute_again (at names scope s) other b outside begins rest)))))))))

  -- Sets, whose tuples need a level.

  abbrev pub level_left : ℕ → Bool
  level_left zero = false
  level_left (suc n) = true

  level_still : (n : ℕ) → Within n zero → level_left n ≡ true → false ≡ true
  level_still zero w e = e
  level_still (suc n) w e = absurd w

  set_spells : (n m : ℕ) → Within n m → (v : SetLit × ValueType) → SetAgain names (level_left n) v → (s : ℕ) (wanted : Wanted) (rest : List Kind)
      → Took (unary_form (at names scope s) m wanted) (sound (set_literal v.0) v.1 false) (set_tokens v.0 rest) rest
  unfolding operand_form
  set_spells n zero w v again s wanted rest = inr (inr (inr (inr (inr (inr (tt, _, (refl, refl), (v, rest, again false (level_still n w) rest, (refl, refl))))))))
  set_spells n (suc m) w v again s wanted rest = inr (inr (inr (inr (inr (inr (tt, _, (refl, refl), (v, rest, again true (λ e. refl) rest, (refl, refl))))))))

  pub set_case : (n : ℕ) (o : Operand) (v : SetLit × ValueType) → o ≡ closed (set_literal v.0) v.1 → SetAgain names (level_left n) v → Says n o
  set_case n o v is again = subst (λ x. Says n x) (sym is) (single_plain names scope n (set_literal v.0) v.1 refl (λ m w. (false, λ s wanted begins rest. set_spells n m w v again s wanted rest)))

  -- Arguments.

  -- what stands in a call's parentheses, and its end
  abbrev pub ArgumentsAgain : ℕ → List ValueType → Parts → Type 0
  ArgumentsAgain n params parts =
      (m : ℕ) → Within n m → (s place : ℕ) (rest : List Kind) → (others : Parts) × (others.trees ≡ parts.trees)
      × Took (enclosed (at names scope s) (expression_form (at names scope s) m) (arguments params) place) others (exprs_tokens (exprs parts.trees) (kind.Mark mark.Close ∷ rest)) rest

  pub arguments_again : (n : ℕ) → Again names scope n → (params : List ValueType) (s place : ℕ) (parts : Parts) (ts rest : List Kind)
      → Took (enclosed (at names scope s) (expression_form (at names scope s) n) (arguments params) place) parts ts rest → ArgumentsAgain n params parts
  arguments_again n again [] s place parts ts rest (inl (x, mid, close, (is, same))) m w s' place' others =
      subst (λ es. (new : Parts) × (new.trees ≡ es) × Took (enclosed (at names scope s') (expression_form (at names scope s') m) (arguments []) place') new (exprs_tokens (exprs es) (kind.Mark mark.Close ∷ others)) others)
      (ap (λ p. p.trees) (sym is)) (no_parts (length (kind.Mark mark.Close ∷ others)), refl, inl (tt, _, (refl, refl), (refl, refl)))
  arguments_again n again [] s place parts ts rest (inr (x, mid, front, (fault, took))) m w s' place' others = absurd (let f : ◌≡◌ {A = Option (Cause × ℕ)} (Some (misfit_at place)) None = fault in let g : ⊥ = cc in g)
  arguments_again n again (p ∷ ps) s place parts ts rest (inl (x, mid, close, (fault, took))) m w s' place' others = absurd (let f : ◌≡◌ {A = Option (Cause × ℕ)} (Some (misfit_at place)) None = fault in let g : ⊥ = cc in g)
  arguments_again n again (p ∷ ps) s place parts ts rest (inr (k, took)) m w s' place' others =
      by_parts (parts_again names scope n again (arguments (p ∷ ps)) s place k (no_parts (length ts)) parts ts rest took)
    where
      by_parts : Renewed names scope n (arguments (p ∷ ps)) (no_parts (length ts)) parts
          → (new : Parts) × (new.trees ≡ parts.trees) × Took (enclosed (at names scope s') (expression_form (at names scope s') m) (arguments (p ∷ ps)) place') new (exprs_tokens (exprs parts.trees) (kind.Mark mark.Close ∷ others)) others
      by_parts (new, all, going, lone, spells) =
          let first : ℕ = length (exprs_tokens (exprs parts.trees) (kind.Mark mark.Close ∷ others)) in (
            same_parts parts first parts.ty,
            refl,
            inr (subst (λ es. (j : ℕ) × Rounds (λ t. Took (part_form (expression_form (at names scope s') m) (arguments (p ∷ ps)) place' t)) j (no_parts first) (same_parts parts first parts.ty) (exprs_tokens (exprs es) (kind.Mark mark.Close ∷ others)) others)
                (sym all) (spells m w s' place' first Truth others)),
          )

  -- What is below an operand with so many levels.

  abbrev inner_at : ℕ → ℕ → Deeper
  inner_at s zero = nothing
  inner_at s (suc n) = deeper (unary_form (at names scope s) n)

  abbrev Below : ℕ → Type 0
  Below zero = Unit {0}
  Below (suc n) = AloneAgain n

  -- Names and calls.

  pub value_case : (n : ℕ) (o : Operand) (name : List ℕ) (left : ℕ) → called (at names scope 0) name ≡ None → if_missing (value_of scope (names name)) (no_value (at names scope 0) name left) ≡ None
      → o ≡ closed (named name) (type_or (value_of scope (names name))) → Says n o
  unfolding operand_form
  value_case n o name left none found is = by_value (there (value_of scope (names name)) _ found)
    where
      by_value : (t : ValueType) × (value_of scope (names name) ≡ Some t) → Says n o
      by_value (t, known) =
          subst (λ x. Says n x) (sym is) (flat n (named name) (type_or (value_of scope (names name))) false refl (λ s wanted begins rest inner. inr (inr (inr (inl (
            name,
            rest,
            (refl, refl),
            subst (λ d. Took (name_form (at names scope s) inner name (length (kind.Name name ∷ rest)) d) (sound (named name) (type_or (value_of scope (names name))) false) rest rest) (sym none)
                (there_again (value_of scope (names name)) t _ known, (refl, refl)),
          ))))))

  pub call_spells : (n : ℕ) (name : List ℕ) (signature : Signature) (t : ValueType) (parts : Parts) → called (at names scope 0) name ≡ Some signature → signature.returns ≡ Some t → ArgumentsAgain n signature.params parts
      → Single names scope (suc n) (call name (exprs parts.trees)) (type_or signature.returns)
  unfolding operand_form
  call_spells n name signature t parts known returns spells = single_plain names scope (suc n) (call name (exprs parts.trees)) (type_or signature.returns) refl by_level
    where
      by_level : (m : ℕ) → Within (suc n) m → Alone names scope m (call name (exprs parts.trees)) (type_or signature.returns) (expr_tokens (call name (exprs parts.trees)))
      by_level zero w = absurd w
      by_level (suc m) w = (
        false,
        λ s wanted begins rest.
            (let behind : List Kind = kind.Mark mark.Open ∷ exprs_tokens (exprs parts.trees) (kind.Mark mark.Close ∷ rest) in
            let place : ℕ = length (kind.Name name ∷ behind) in
            let new = spells m w s place rest in
            inr (inr (inr (inl (
              name,
              behind,
              (refl, refl),
              subst (λ d. Took (name_form (at names scope s) (deeper (unary_form (at names scope s) m)) name place d) (sound (call name (exprs parts.trees)) (type_or signature.returns) false) behind rest) (sym known)
                  (there_again signature.returns t _ returns, (tt, _, (refl, refl), (new.0, rest, new.2, (ap (λ es. closed (call name (exprs es)) (type_or signature.returns)) (sym new.1), refl)))),
            ))))),
      )

  call_case : (n : ℕ) → Below n → (s place : ℕ) (o : Operand) (name : List ℕ) (signature : Signature) (ts rest : List Kind) → called (at names scope 0) name ≡ Some signature
      → Took (call_form (at names scope s) (inner_at s n) name place signature) o ts rest → Says n o
  call_case zero below s place o name signature ts rest known (found, (barred, never)) = absurd (never_took o ts rest never)
  call_case (suc n) below s place o name signature ts rest known (found, (x, mid, open_, (parts, more, took, (is, same)))) =
      by_type (there signature.returns _ found)
    where
      by_type : (t : ValueType) × (signature.returns ≡ Some t) → Says (suc n) o
      by_type (t, returns) =
          subst (λ x. Says (suc n) x) (sym is)
          (call_spells n name signature t parts known returns (arguments_again n (expressed_again names scope n below) signature.params s place parts mid more took))

  named_case : (n : ℕ) → Below n → (s place : ℕ) (o : Operand) (name : List ℕ) (ts rest : List Kind) (d : Option Signature) → called (at names scope 0) name ≡ d
      → Took (name_form (at names scope s) (inner_at s n) name place d) o ts rest → Says n o
  named_case n below s place o name ts rest None none (found, (is, same)) = value_case n o name place none (there_again (value_of scope (names name)) _ _ (there (value_of scope (names name)) _ found).1) is
  named_case n below s place o name ts rest (Some signature) known took = call_case n below s place o name signature ts rest known took

  -- `roa_check`.

  pub check_spells : (n left place : ℕ) (table : List ℕ) (a b : ExprTree) → is_define scope ≡ false → no_roa_table (names table) left place ≡ None
      → ((m : ℕ) → Within n m → (s place first : ℕ) (ty : ValueType) (rest : List Kind) → (new : Parts) × (new.trees ≡ a ∷ b ∷ [])
      × ((j : ℕ) × Rounds (λ t. Took (part_form (expression_form (at names scope s) m) roa_values place t)) j (record { trees = []; first = first; ty = ty }) new (exprs_tokens (exprs (a ∷ b ∷ [])) (kind.Mark mark.Close ∷ rest)) rest))
      → Single names scope (suc n) (roa_check table a b) State
  unfolding operand_form
  check_spells n left place table a b outside known spells = single_plain names scope (suc n) (roa_check table a b) State refl by_level
    where
      by_level : (m : ℕ) → Within (suc n) m → Alone names scope m (roa_check table a b) State (expr_tokens (roa_check table a b))
      by_level zero w = absurd w
      by_level (suc m) w = (
        false,
        λ s wanted begins rest.
            (let values : List Kind = exprs_tokens (exprs (a ∷ b ∷ [])) (kind.Mark mark.Close ∷ rest) in
            let whole : List Kind = expr_tokens (roa_check table a b) rest in
            let new = spells m w s (length whole) (length values) Truth rest in
            inr (inr (inl (
              tt,
              _,
              (outside_again (at names scope s) check_word (codes "roa_check") tt outside refl, refl),
              (
                tt,
                _,
                (refl, refl),
                (
                  table,
                  _,
                  (table, _, (refl, refl), (no_table_again (names table) left _ place _ known, (refl, refl))),
                  (
                    tt,
                    _,
                    (refl, refl),
                    (new.0, rest, new.2, (ap (λ es. closed (check_tree table es) State) (sym new.1), refl)),
                  ),
                ),
              ),
            )))),
      )

  -- two values in the parentheses of `roa_check`
  two_values : (n left place : ℕ) (table : List ℕ) (parts : Parts) (start : ℕ) → is_define scope ≡ false → no_roa_table (names table) left place ≡ None → (new : List ExprTree) → parts.trees ≡ new → Going roa_values 0 new
      → ((m : ℕ) → Within n m → (s place first : ℕ) (ty : ValueType) (rest : List Kind) →
      (j : ℕ) × Rounds (λ t. Took (part_form (expression_form (at names scope s) m) roa_values place t)) j (record { trees = []; first = first; ty = ty }) (same_parts parts first parts.ty) (exprs_tokens (exprs new) (kind.Mark mark.Close ∷ rest)) rest)
      → Single names scope (suc n) (check_tree table parts.trees) State
  two_values n left place table parts start outside known [] all going spells = absurd going
  two_values n left place table parts start outside known (a ∷ []) all going spells = absurd (let f : false ≡ true = going in let g : ⊥ = cc in g)
  two_values n left place table parts start outside known (a ∷ b ∷ c ∷ others) all (on, (more, going)) spells = absurd (let f : false ≡ true = more in let g : ⊥ = cc in g)
  two_values n left place table parts start outside known (a ∷ b ∷ []) all going spells =
      subst (λ es. Single names scope (suc n) (check_tree table es) State) (sym all)
      (check_spells n left place table a b outside known (λ m w s elsewhere first ty rest. (same_parts parts first parts.ty, all, spells m w s elsewhere first ty rest)))

  check_case : (n : ℕ) → Below n → (s place : ℕ) (o : Operand) (ts rest : List Kind) → is_define scope ≡ false
      → Took (opened mark.Open (inner_at s n) (λ unary. sequence (roa_table (at names scope s) place) (λ table. sequence (the_mark mark.Comma) (λ tt.
      sequence (enclosed (at names scope s) (expression_of unary) roa_values place) (λ parts. gives (closed (check_tree table parts.trees) State)))))) o ts rest → Says n o
  check_case zero below s place o ts rest outside (barred, never) = absurd (never_took o ts rest never)
  check_case (suc n) below s place o ts rest outside (x, mid, open_, (table, a, (name, b, token, (known, (named_, same_a))), (y, c, comma, (parts, d, (k, took), (is, same))))) =
      subst (λ z. Says (suc n) z) (sym is)
      (by_parts (parts_again names scope n (expressed_again names scope n below) roa_values s place k (no_parts (length c)) parts c d took))
    where
      by_parts : Renewed names scope n roa_values (no_parts (length c)) parts → Single names scope (suc n) (check_tree table parts.trees) State
      by_parts (new, all, going, lone, spells) =
          two_values n (length mid) place table parts 0 outside (subst (λ t. no_roa_table (names t) (length mid) place ≡ None) (sym named_) known) new all going spells

  -- One expression in parentheses, or a tuple.

  pub tuple_spells : (n : ℕ) (parts : Parts) (e : ExprTree) (t : ValueType) (es : List ExprTree) → is_compound e ≡ false → parts.trees ≡ es → closed e t ≡ plain_tree es parts.ty
      → ((rest : List Kind) → sign mark.Open (exprs_tokens (exprs es) (sign mark.Close rest)) ≡ expr_tokens e rest)
      → ((m : ℕ) → Within n m → (s place first : ℕ) (ty : ValueType) (rest : List Kind) →
      (j : ℕ) × Rounds (λ u. Took (part_form (expression_form (at names scope s) m) plain place u)) j (record { trees = []; first = first; ty = ty }) (same_parts parts first parts.ty) (exprs_tokens (exprs es) (kind.Mark mark.Close ∷ rest)) rest)
      → Single names scope (suc n) e t
  unfolding operand_form
  tuple_spells n parts e t es simple all is tokens spells = single_plain names scope (suc n) e t simple by_level
    where
      by_level : (m : ℕ) → Within (suc n) m → Alone names scope m e t (expr_tokens e)
      by_level zero w = absurd w
      by_level (suc m) w = (
        false,
        λ s wanted begins rest.
            subst (λ ts. Took (unary_form (at names scope s) (suc m) wanted) (closed e t) ts rest) (tokens rest)
            (let first : ℕ = length (exprs_tokens (exprs es) (kind.Mark mark.Close ∷ rest)) in
            inr (inl (tt, _, (refl, refl), (same_parts parts first parts.ty, rest, spells m w s s first Truth rest, (is ∙ ap (λ xs. plain_tree xs parts.ty) (sym all), refl))))),
      )

  plain_parts : (n : ℕ) (parts : Parts) (new : List ExprTree) → parts.trees ≡ new → Going plain 0 new → Lone names scope n new parts.ty
      → ((m : ℕ) → Within n m → (s place first : ℕ) (ty : ValueType) (rest : List Kind) →
      (j : ℕ) × Rounds (λ u. Took (part_form (expression_form (at names scope s) m) plain place u)) j (record { trees = []; first = first; ty = ty }) (same_parts parts first parts.ty) (exprs_tokens (exprs new) (kind.Mark mark.Close ∷ rest)) rest)
      → Says (suc n) (plain_tree new parts.ty)
  plain_parts n parts [] all going lone spells = absurd going
  plain_parts n parts (e ∷ []) all going lone spells = single_enclosed names scope n e parts.ty lone
  plain_parts n parts (a ∷ b ∷ []) all going lone spells =
      tuple_spells n parts (pair_tree a b) Pair (a ∷ b ∷ []) (pair_simple a b) all refl (λ rest. sym (pair_same a b rest)) spells
  plain_parts n parts (a ∷ b ∷ c ∷ []) all going lone spells =
      tuple_spells n parts (triple_tree a b c) Triple (a ∷ b ∷ c ∷ []) (triple_simple a b c) all refl (λ rest. sym (triple_same a b c rest)) spells
  plain_parts n parts (a ∷ b ∷ c ∷ d ∷ others) all (on, (more, (last, going))) lone spells = absurd (let f : false ≡ true = last in let g : ⊥ = cc in g)

  plain_case : (n : ℕ) → Below n → (s : ℕ) (o : Operand) (ts rest : List Kind) → Took (plain_form (at names scope s) (inner_at s n)) o ts rest → Says n o
  plain_case zero below s o ts rest (barred, never) = absurd (never_took o ts rest never)
  plain_case (suc n) below s o ts rest (x, mid, open_, (parts, more, (k, took), (is, same))) =
      subst (λ z. Says (suc n) z) (sym is) (by_parts (parts_again names scope n (expressed_again names scope n below) plain s s k (no_parts (length mid)) parts mid more took))
    where
      by_parts : Renewed names scope n plain (no_parts (length mid)) parts → Says (suc n) (plain_operand parts)
      by_parts (new, all, going, lone, spells) = subst (λ es. Says (suc n) (plain_tree es parts.ty)) (sym all) (plain_parts n parts new all going lone spells)

  -- Negations.

  pub negation_spells : (n : ℕ) (e : ExprTree) (t : ValueType) → same_type t Truth ≡ true → Single names scope n e t → Single names scope (suc n) (negation e) Truth
  unfolding operand_form
  negation_spells n e t truth (expressed, alone) = single_plain names scope (suc n) (negation e) Truth refl by_level
    where
      by_level : (m : ℕ) → Within (suc n) m → Alone names scope m (negation e) Truth (expr_tokens (negation e))
      by_level zero w = absurd w
      by_level (suc m) w =
          (let one = alone m w in
          (false, λ s wanted begins rest. inl (tt, _, (refl, refl), (sound e t one.0, rest, one.1 s anything refl rest, (so_again (same_type t Truth) _ truth, (refl, refl))))))

  negation_case : (n : ℕ) → Below n → (s : ℕ) (o : Operand) (ts rest : List Kind) → Took (negation_form (inner_at s n)) o ts rest → Says n o
  negation_case zero below s o ts rest (barred, never) = absurd (never_took o ts rest never)
  negation_case (suc n) below s o ts rest (x, mid, not_, (operand, more, took, (fit, (is, same)))) =
      subst (λ z. Says (suc n) z) (sym is) (negation_spells n operand.tree operand.ty (is_so (same_type operand.ty Truth) _ fit) (below s anything operand mid more took))

  -- All operands.

  literal_taken : (n : ℕ) (o : Operand) → (k : Kind) × (literal_in k ≡ Some o) → Says n o
  literal_taken n o (k, e) = literal_case n o k e

  operand_again : (n : ℕ) → Below n → (s : ℕ) (wanted : Wanted) (o : Operand) (ts rest : List Kind) → Took (operand_form (at names scope s) (inner_at s n) wanted) o ts rest → Says n o
  unfolding operand_form
  operand_again n below s wanted o ts rest (inl took) = negation_case n below s o ts rest took
  operand_again n below s wanted o ts rest (inr (inl took)) = plain_case n below s o ts rest took
  operand_again n below s wanted o ts rest (inr (inr (inl (x, mid, word, took)))) =
      check_case n below s (length ts) o mid rest (let k = took_token _ x ts mid word in outside_is (at names scope s) check_word k.0 x k.1) took
  operand_again n below s wanted o ts rest (inr (inr (inr (inl (name, mid, token, took))))) = named_case n below s (length ts) o name mid rest (called (at names scope 0) name) refl took
  operand_again n below s wanted o ts rest (inr (inr (inr (inr (inl took))))) = literal_taken n o (took_token literal_in o ts rest took)
  operand_again n below s wanted o ts rest (inr (inr (inr (inr (inr (inl (a, mid, word, took))))))) =
      attribute_case n s wanted o a mid rest (let k = took_token _ a ts mid word in outside_is (at names scope s) attribute_in k.0 a k.1) took
  operand_again n below s wanted o ts rest (inr (inr (inr (inr (inr (inr (x, mid, open_, (v, more, took, (is, same))))))))) =
      set_case n o v is (by_level n v (set_again names (is_left (inner_at s n)) v mid more took))
    where
      by_level : (n : ℕ) (v : SetLit × ValueType) → SetAgain names (is_left (inner_at s n)) v → SetAgain names (level_left n) v
      by_level zero v again = again
      by_level (suc n) v again = again

  alone_again : (n : ℕ) → AloneAgain n
  alone_again zero s wanted o ts rest took = operand_again zero tt s wanted o ts rest took
  alone_again (suc n) s wanted o ts rest took = operand_again (suc n) (alone_again n) s wanted o ts rest took

  -- each expression
  pub expression_again : (n : ℕ) → Again names scope n
  expression_again n = expressed_again names scope n (alone_again n)
