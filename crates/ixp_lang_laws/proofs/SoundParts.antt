-- What stands in parentheses, and the parts of a chain, from what is known of each.
use Rattle.std.proofs.Common.{◌≡◌, ℕ, zero, suc, inl, inr, Bool, true, false, List, [], ◌∷◌, ◌++◌, length, None, refl, sym, ap, subst, append_assoc}
use Rattle.ixp_lang_tokens.specs.declared.token.Kind.{Kind}
use Rattle.ixp_lang_tokens.specs.declared.token.Kind.TheVariants as kind
use Rattle.ixp_lang_tokens.specs.declared.token.Mark.{Mark}
use Rattle.ixp_lang_tokens.specs.declared.token.Mark.TheVariants as mark
use Rattle.ixp_lang_tokens.specs.Grammars.{Rounds, Took}
use Rattle.ixp_lang.specs.Trees.{ExprTree, ExprTrees, exprs}
use Rattle.ixp_lang_exprs.specs.declared.types.ValueType.{ValueType}
use Rattle.ixp_lang_exprs.specs.declared.types.ValueType.TheVariants.{Bool as Truth}
use Rattle.ixp_lang_exprs.specs.declared.context.Scope.{Scope}
use Rattle.ixp_lang_exprs.specs.Types.{same_type}
use Rattle.ixp_lang_exprs.specs.Names.{Names}
use Rattle.ixp_lang_exprs.specs.Operands.{one_type}
use Rattle.ixp_lang_exprs.specs.Expressions.{Shape, Parts, wanted_part, may_go_on, may_end, fits_next, part_form, expression_form}
use Rattle.ixp_print.specs.Texts.{is_chain, is_compound}
use Rattle.ixp_lang_laws.specs.Canonical.{expr_tokens, exprs_tokens, chain_tokens, wrapped as wrapped_tokens}
use Rattle.ixp_lang_laws.proofs.Basics.{Within, sound}
use Rattle.ixp_lang_laws.proofs.Parentheses.{at, Unjoined, Expressed, comma_again, close_again, part_wanted}
use Rattle.ixp_lang_laws.proofs.Operators.{Joint, Alone, Compared, Single, Joined, Chained, ChainRounds, single_enclosed, joined_single, unjoined, joint_apart, joint_again, misfit_again, no_misfit}
use Rattle.ixp_lang_laws.specs.Sound.{wrapped}

module _ (names : Names) (scope : Scope) where
  -- an expression that needs no parentheses
  pub single_of : (n : ℕ) (e : ExprTree) (t : ValueType) → is_compound e ≡ false → Expressed names scope n e t → Single names scope n e t
  single_of n e t simple spelt = (spelt, λ m w. subst (λ c. Alone names scope m e t (wrapped_tokens c (expr_tokens e))) (sym simple) ((spelt m w).alone simple))

  joined_of : (n : ℕ) (e : ExprTree) (t : ValueType) → is_chain e ≡ false → Expressed names scope n e t → Joined names scope n e t
  joined_of n e t simple spelt = (spelt, λ m w. subst (λ c. Compared names scope m e t (wrapped_tokens c (expr_tokens e))) (sym simple) ((spelt m w).part simple))

  -- an operand, in parentheses where it needs them
  pub operand : (n : ℕ) (e : ExprTree) (t : ValueType) (f : ℕ → Bool) (c : Bool) → is_compound e ≡ c → wrapped c n f ≡ true → ((k : ℕ) → f k ≡ true → Expressed names scope k e t) → Single names scope n e t
  operand n e t f false simple fit spells = single_of n e t simple (spells n fit)
  operand (suc n) e t f true simple fit spells = single_enclosed names scope n e t (spells n fit)
  operand zero e t f true simple fit spells = absurd cc

  -- a part of a chain, likewise
  pub part : (n : ℕ) (e : ExprTree) (t : ValueType) (f : ℕ → Bool) (c : Bool) → is_chain e ≡ c → wrapped c n f ≡ true → ((k : ℕ) → f k ≡ true → Expressed names scope k e t) → Joined names scope n e t
  part n e t f false simple fit spells = joined_of n e t simple (spells n fit)
  part (suc n) e t f true simple fit spells = joined_single names scope (suc n) e t (single_enclosed names scope n e t (spells n fit))
  part zero e t f true simple fit spells = absurd cc

  -- Parts in parentheses.

  abbrev pub parts_with : List ExprTree → ℕ → ValueType → Parts
  parts_with trees first ty = record { trees = trees; first = first; ty = ty }

  -- the part fits behind those before it, wherever it stands
  abbrev pub FitsNext : Shape → List ExprTree → Bool → ExprTree → ValueType → Type 0
  FitsNext shape before is_last e t = (first : ℕ) (ty : ValueType) (b : Bool) (left place : ℕ) → fits_next shape (parts_with before first ty) is_last (sound e t b) left place ≡ None

  abbrev pub AreParts : ℕ → Shape → (ExprTree → ValueType) → List ExprTree → List ExprTree → Type 0
  AreParts n shape types before [] = ⊥
  AreParts n shape types before (e ∷ []) = (may_end shape (length before) ≡ true) × Expressed names scope n e (types e) × FitsNext shape before true e (types e)
  AreParts n shape types before (e ∷ f ∷ es) =
      (may_go_on shape (length before) ≡ true) × Expressed names scope n e (types e) × FitsNext shape before false e (types e) × AreParts n shape types (before ++ e ∷ []) (f ∷ es)

  abbrev pub last_type : (ExprTree → ValueType) → ValueType → List ExprTree → ValueType
  last_type types t [] = t
  last_type types t (e ∷ es) = last_type types (types e) es

  abbrev pub PartRounds : ℕ → Shape → ℕ → ℕ → ℕ → Parts → Parts → List Kind → List Kind → Type 0
  PartRounds n shape s place = Rounds (λ t. Took (part_form (expression_form (at names scope s) n) shape place t))

  pub parts_spelt : (n : ℕ) (shape : Shape) (types : ExprTree → ValueType) (before new : List ExprTree) → AreParts n shape types before new
      → (m : ℕ) → Within n m → (s place first : ℕ) (ty : ValueType) (rest : List Kind)
      → (j : ℕ) × PartRounds m shape s place j (parts_with before first ty) (parts_with (before ++ new) first (last_type types ty new)) (exprs_tokens (exprs new) (kind.Mark mark.Close ∷ rest)) rest
  parts_spelt n shape types before [] are m w s place first ty rest = absurd are
  parts_spelt n shape types before (e ∷ []) (ends, spelt, fit) m w s place first ty rest =
      (let whole = (spelt m w).whole in (
        0,
        (
          sound e (types e) whole.0,
          kind.Mark mark.Close ∷ rest,
          whole.1 s (wanted_part shape (length before) place) (part_wanted shape (parts_with before first ty) true (sound e (types e) whole.0) 0 place place (fit first ty whole.0 0 place)) (kind.Mark mark.Close ∷ rest) (refl, refl),
          (true, rest, (close_again shape (length before) ends, refl), (fit first ty whole.0 _ place, (refl, refl))),
        ),
      ))
  parts_spelt n shape types before (e ∷ f ∷ es) (on, spelt, fit, more) m w s place first ty rest =
      subst (λ all. (j : ℕ) × PartRounds m shape s place j (parts_with before first ty) (parts_with all first (last_type types (types e) (f ∷ es))) (exprs_tokens (exprs (e ∷ f ∷ es)) (kind.Mark mark.Close ∷ rest)) rest)
      (append_assoc before (e ∷ []) (f ∷ es))
      (let whole = (spelt m w).whole in
      let others = parts_spelt n shape types (before ++ e ∷ []) (f ∷ es) more m w s place first (types e) rest in (
        suc others.0,
        (
          parts_with (before ++ e ∷ []) first (types e),
          exprs_tokens (exprs (f ∷ es)) (kind.Mark mark.Close ∷ rest),
          (
            sound e (types e) whole.0,
            kind.Mark mark.Comma ∷ exprs_tokens (exprs (f ∷ es)) (kind.Mark mark.Close ∷ rest),
            whole.1 s (wanted_part shape (length before) place) (part_wanted shape (parts_with before first ty) false (sound e (types e) whole.0) 0 place place (fit first ty whole.0 0 place)) _ (refl, refl),
            (false, _, (comma_again shape (length before) on, refl), (fit first ty whole.0 _ place, (refl, refl))),
          ),
          others.1,
        ),
      ))

  -- Chains.

  abbrev pub AllJoined : ℕ → (ExprTree → ValueType) → List ExprTree → Type 0
  AllJoined n types [] = Unit {0}
  AllJoined n types (e ∷ es) = Joined names scope n e (types e) × (same_type (types e) Truth ≡ true) × AllJoined n types es

  pub chain_spelt : (joint other : Mark) (joined : ExprTrees → ExprTree) → Joint joint other joined → (n : ℕ) (types : ExprTree → ValueType) (before : List ExprTree) (e : ExprTree) (es : List ExprTree) → AllJoined n types (e ∷ es)
      → (m : ℕ) → Within n m → (s place : ℕ) (rest : List Kind) → Unjoined rest
      → (j : ℕ) × ChainRounds names scope joint other joined m s j (record { parts = before; place = place }) (sound (joined (exprs (before ++ e ∷ es))) Truth false) (chain_tokens joint (exprs (e ∷ es)) rest) rest
  chain_spelt joint other joined j n types before e [] (joins, truth, more) m w s place rest free =
      (let reads = joins.1 m w in (
        0,
        (
          sound e (types e) reads.0,
          rest,
          reads.1 s (one_type Truth place) truth rest,
          (unjoined names scope joint other joined j rest free, inr (ap Rattle.ixp_lang_tokens.specs.Grammars.done (misfit_again names scope joined before e (types e) reads.0 place truth), refl)),
        ),
      ))
  chain_spelt joint other joined j n types before e (f ∷ fs) (joins, truth, more) m w s place rest free =
      subst (λ all. (i : ℕ) × ChainRounds names scope joint other joined m s i (record { parts = before; place = place }) (sound (joined (exprs all)) Truth false) (chain_tokens joint (exprs (e ∷ f ∷ fs)) rest) rest)
      (append_assoc before (e ∷ []) (f ∷ fs))
      (let reads = joins.1 m w in
      let rest_tokens : List Kind = chain_tokens joint (exprs (f ∷ fs)) rest in
      let go = chain_spelt joint other joined j n types (before ++ e ∷ []) f fs more m w s (length (kind.Mark joint ∷ rest_tokens)) rest free in (
        suc go.0,
        (
          record { parts = before ++ e ∷ []; place = length (kind.Mark joint ∷ rest_tokens) },
          rest_tokens,
          (
            sound e (types e) reads.0,
            kind.Mark joint ∷ rest_tokens,
            reads.1 s (one_type Truth place) truth (kind.Mark joint ∷ rest_tokens),
            (joint_apart names scope joint other joined j rest_tokens, inl (tt, rest_tokens, (joint_again names scope joint other joined j, refl), (no_misfit names scope e (types e) reads.0 place truth, (refl, refl)))),
          ),
          go.1,
        ),
      ))

  pub chained_of : (joint other : Mark) (joined : ExprTrees → ExprTree) → Joint joint other joined → (n : ℕ) (types : ExprTree → ValueType) (before : List ExprTree) (e : ExprTree) (es : List ExprTree) → AllJoined n types (e ∷ es)
      → Chained names scope joint other joined n before (sound (joined (exprs (before ++ e ∷ es))) Truth false)
  chained_of joint other joined j n types before e es all = (e, es, refl, refl, λ m w s place rest free. chain_spelt joint other joined j n types before e es all m w s place rest free)
