-- The expressions that a text spells fit: operands, comparisons and chains, from what stands alone.
use Rattle.std.proofs.Common.{◌≡◌, ℕ, zero, suc, Bool, true, false, ◌&&◌, List, [], ◌∷◌, ◌++◌, None, refl, sym, subst}
use Rattle.ixp_lang.specs.Trees.{ExprTree, negation, conjunction, disjunction, comparison, ExprTrees, exprs}
use Rattle.ixp_lang.specs.declared.expr.Op.{Op}
use Rattle.ixp_lang_tokens.specs.declared.token.Mark.{Mark}
use Rattle.ixp_lang_tokens.specs.declared.token.Mark.TheVariants as mark
use Rattle.ixp_lang_tokens.specs.Grammars.{Grammar}
use Rattle.ixp_lang_exprs.specs.declared.types.ValueType.{ValueType}
use Rattle.ixp_lang_exprs.specs.declared.types.ValueType.TheVariants.{Bool as Truth}
use Rattle.ixp_lang_exprs.specs.declared.context.Scope.{Scope}
use Rattle.ixp_lang_exprs.specs.Types.{same_type, takes_left, takes_right}
use Rattle.ixp_lang_exprs.specs.Names.{Names}
use Rattle.ixp_lang_exprs.specs.declared.wanted.Wanted.{Wanted}
use Rattle.ixp_lang_exprs.specs.Operands.{Operand, anything, fits_negation, negated, compared_operand, fits_left, one_type, no_truth, fits as fits_type}
use Rattle.ixp_lang_exprs.specs.Expressions.{Chain, chained, part_misfit, comparison_of, chain_part, chain_of, expression_of}
use Rattle.ixp_print.specs.Texts.{is_chain, is_compound}
use Rattle.ixp_lang_laws.specs.Sound.{wrapped, some_of, two_or_more, type_of, fits, parts_fit}
use Rattle.ixp_lang_laws.proofs.SaidBasics.{Within, within_more, both, both_none, is_so, if_none, none_settled, none_part, none_unfit}
use Rattle.ixp_lang_laws.proofs.Saying.{Says, Next, says_gives, says_token, says_sequence, says_then, says_choice, says_checks, says_bars, says_here, says_rounds, says_mark, AreAll, all_more, some_more}

-- a part behind others makes a chain
two_more : (es : List ExprTree) (e : ExprTree) → some_of es ≡ true → two_or_more (exprs (es ++ e ∷ [])) ≡ true
two_more [] e some = absurd cc
two_more (a ∷ []) e some = refl
two_more (a ∷ b ∷ es) e some = refl

module _ (names : Names) (scope : Scope) where
  -- The tree fits with so many levels or more, as it is or in parentheses.
  abbrev pub Wraps : Bool → ℕ → ExprTree → Type 0
  Wraps c n e = (m : ℕ) → Within n m → wrapped c m (λ k. fits names scope k e) ≡ true

  -- as an expression; as a part of a chain or a comparison of operands; and as an operand
  abbrev pub Whole : ℕ → ExprTree → Type 0
  Whole n e = (m : ℕ) → Within n m → fits names scope m e ≡ true

  abbrev pub Part : ℕ → ExprTree → Type 0
  Part n e = Whole n e × Wraps (is_chain e) n e

  abbrev pub Alone : ℕ → ExprTree → Type 0
  Alone n e = Whole n e × Wraps (is_chain e) n e × Wraps (is_compound e) n e

  -- an operand's tree has its type, and is so if there is no misfit
  abbrev pub Sound : (ExprTree → Type 0) → Operand → Type 0
  Sound P o = (type_of names scope o.tree ≡ o.ty) × (o.misfit ≡ None → P o.tree)

  -- the same where no misfit can wait
  abbrev pub Settled : (ExprTree → Type 0) → Operand → Type 0
  Settled P o = (type_of names scope o.tree ≡ o.ty) × (o.misfit ≡ None) × P o.tree

  -- a tree of this type
  abbrev pub Of : ValueType → ℕ → ExprTree → Type 0
  Of t n e = (same_type (type_of names scope e) t ≡ true) × Whole n e

  pub typed : (t : ValueType) (o : Operand) → type_of names scope o.tree ≡ o.ty → same_type o.ty t ≡ true → same_type (type_of names scope o.tree) t ≡ true
  typed t o is same = subst (λ u. same_type u t ≡ true) (sym is) same

  -- what fits a type without a fault
  pub of_type : (n : ℕ) (o : Operand) (t : ValueType) (place : ℕ) → Sound (Whole n) o → fits_type o t place ≡ None → Of t n o.tree
  of_type n o t place sound e = (let f : (o.misfit ≡ None) × (same_type o.ty t ≡ true) = none_unfit o t place e in (typed t o sound.0 f.1, sound.1 f.0))

  -- what fits in parentheses fits one level higher, with them or without
  wraps_whole : (c : Bool) (n : ℕ) (e : ExprTree) → Whole n e → Wraps c (suc n) e
  wraps_whole c n e whole zero w = absurd w
  wraps_whole true n e whole (suc m) w = whole m w
  wraps_whole false n e whole (suc m) w = whole (suc m) (within_more n m w)

  pub enclosed_alone : (n : ℕ) (e : ExprTree) → Whole n e → Alone (suc n) e
  enclosed_alone n e whole = (wraps_whole false n e whole, wraps_whole (is_chain e) n e whole, wraps_whole (is_compound e) n e whole)

  -- Negations and comparisons.

  negation_fits : (n : ℕ) (e : ExprTree) → same_type (type_of names scope e) Truth ≡ true → Wraps (is_compound e) n e → Whole (suc n) (negation e)
  negation_fits n e same wraps zero w = absurd w
  negation_fits n e same wraps (suc m) w = both same (wraps m w)

  pub negated_sound : (n : ℕ) (o : Operand) (place : ℕ) → Settled (Alone n) o → fits_negation o place ≡ None → Settled (Alone (suc n)) (negated o)
  negated_sound n o place (ty, settled, fit) e =
      (let whole : Whole (suc n) (negation o.tree) = negation_fits n o.tree (typed Truth o ty (is_so (same_type o.ty Truth) _ e)) fit.2 in
      (refl, refl, (whole, whole, whole)))

  comparison_fits : (n : ℕ) (op : Op) (e f : ExprTree) → takes_left op (type_of names scope e) ≡ true → takes_right op (type_of names scope e) (type_of names scope f) ≡ true → Wraps (is_compound e) n e → Wraps (is_compound f) n f
      → Whole n (comparison op e f)
  comparison_fits n op e f left right one two m w = both (both (both left right) (one m w)) (two m w)

  compared_sound : (n : ℕ) (op : Op) (left right : Operand) (place : ℕ) → Settled (Alone n) left → Settled (Alone n) right → takes_left op left.ty ≡ true → Sound (Part n) (compared_operand op left right place)
  compared_sound n op left right place one two takes = (
    refl,
    λ none.
        (let is_left : takes_left op (type_of names scope left.tree) ≡ true = subst (λ t. takes_left op t ≡ true) (sym one.0) takes in
        let is_right : takes_right op (type_of names scope left.tree) (type_of names scope right.tree) ≡ true =
        subst (λ t. takes_right op t (type_of names scope right.tree) ≡ true) (sym one.0) (subst (λ t. takes_right op left.ty t ≡ true) (sym two.0) (if_none (takes_right op left.ty right.ty) place none)) in
        let whole : Whole n (comparison op left.tree right.tree) = comparison_fits n op left.tree right.tree is_left is_right one.2.2 two.2.2 in
        (whole, whole)),
  )

  -- Chains.

  -- a part of a chain
  abbrev Joined : ℕ → ExprTree → Type 0
  Joined n e = (same_type (type_of names scope e) Truth ≡ true) × Wraps (is_chain e) n e

  joined : (n : ℕ) (o : Operand) → Sound (Part n) o → (o.misfit ≡ None) × (same_type o.ty Truth ≡ true) → Joined n o.tree
  joined n o sound f = (typed Truth o sound.0 f.1, (sound.1 f.0).1)

  all_joined : (n : ℕ) (es : List ExprTree) → AreAll (Joined n) es → (m : ℕ) → Within n m → parts_fit names scope m (exprs es) ≡ true
  all_joined n [] all m w = refl
  all_joined n (e ∷ es) (one, all) m w = both (both one.0 (one.1 m w)) (all_joined n es all m w)

  abbrev IsChain : ℕ → Chain → Type 0
  IsChain n chain = (some_of chain.parts ≡ true) × AreAll (Joined n) chain.parts

  -- how parts that fit make a tree that does
  abbrev pub Joins : (ExprTrees → ExprTree) → Type 0
  Joins tree = ((es : ExprTrees) → type_of names scope (tree es) ≡ Truth) × ((m : ℕ) (es : ExprTrees) → (two_or_more es && parts_fit names scope m es) ≡ true → fits names scope m (tree es) ≡ true)

  chained_sound : (n : ℕ) (tree : ExprTrees → ExprTree) → Joins tree → (chain : Chain) (last : Operand) → IsChain n chain → Sound (Part n) last → Sound (Whole n) (chained tree chain last)
  chained_sound n tree joins chain last is sound = (
    joins.0 _,
    λ none m w.
        (let one : Joined n last.tree = joined n last sound (none_part last chain.place none) in
        joins.1 m _ (both (two_more chain.parts last.tree is.0) (all_joined n (chain.parts ++ last.tree ∷ []) (all_more (Joined n) chain.parts last.tree is.1 one) m w))),
  )

  module _ (n : ℕ) (unary : Wanted → Grammar Operand) (k : (wanted : Wanted) → Says (unary wanted) (Settled (Alone n))) where
    says_comparison : (wanted : Wanted) → Says (comparison_of unary wanted) (Sound (Part n))
    says_comparison wanted =
        says_sequence (k wanted) (λ left one.
        says_checks (λ hope.
        says_here (λ place.
        says_choice
        (says_then (says_token _) (λ op.
        says_checks (λ takes.
        let f : takes_left op left.ty ≡ true = is_so (takes_left op left.ty) _ (both_none (fits_left op left place) (no_truth wanted) takes).0 in
        says_sequence (k anything) (λ right two. says_checks (λ now. says_gives (compared_sound n op left right place one two f))))))
        (says_gives (one.0, λ none. (one.2.0, one.2.1))))))

    says_chain_part : (joint other : Mark) (tree : ExprTrees → ExprTree) → Joins tree → (chain : Chain) → IsChain n chain → Says (chain_part unary joint other tree chain) (Next (IsChain n) (Sound (Whole n)))
    says_chain_part joint other tree joins chain is =
        says_sequence (says_comparison (one_type Truth chain.place)) (λ part sound.
        says_here (λ place.
        says_bars
        (says_choice
        (says_then (says_mark joint) (λ x.
        says_checks (λ fit.
        let one : Joined n part.tree = joined n part sound (none_part part chain.place (none_settled (part_misfit part chain.place) fit)) in
        says_gives (some_more chain.parts part.tree, all_more (Joined n) chain.parts part.tree is.1 one))))
        (says_gives (chained_sound n tree joins chain part is sound)))))

    says_chain : (joint other : Mark) (tree : ExprTrees → ExprTree) → Joins tree → (first : Operand) (place : ℕ) → Sound (Part n) first → Says (chain_of unary joint other tree first place) (Sound (Whole n))
    says_chain joint other tree joins first place sound =
        says_then (says_mark joint) (λ x.
        says_checks (λ fit. says_rounds (IsChain n) (refl, (joined n first sound (none_unfit first Truth place fit), tt)) (λ chain is. says_chain_part joint other tree joins chain is)))

    -- what is said as an expression fits
    pub says_expression_of : (wanted : Wanted) → Says (expression_of unary wanted) (Sound (Whole n))
    says_expression_of wanted =
        says_sequence (says_comparison wanted) (λ first one.
        says_here (λ place.
        says_choice (says_chain mark.And mark.Or conjunction ((λ es. refl), λ m es fit. fit) first place one)
        (says_choice (says_chain mark.Or mark.And disjunction ((λ es. refl), λ m es fit. fit) first place one)
        (says_gives (one.0, λ none. (one.1 none).0)))))
