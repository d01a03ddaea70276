-- Expressions, and what they are with more levels.
use Rattle.std.proofs.lemmas.Bool.{ltb-true}
use Rattle.std.specs.Option.{is_some}
use Rattle.std.proofs.Common.{◌≡◌, ℕ, zero, suc, pred, ◌+◌, ◌<◌, ◌≤◌, nat_lt, inl, inr, Bool, true, false, ◌&&◌, List, [], ◌∷◌, ◌++◌, codes, length, length-append, Option, Some, None, refl, sym, ap, arith, subst, if◌then◌else◌}
use Rattle.ixp_lang.specs.Trees.{ExprTree, ExprTrees, conjunction, disjunction}
use Rattle.ixp_lang.specs.declared.expr.Attr.{Attr}
use Rattle.ixp_lang.specs.declared.expr.Op.TheVariants as op
use Rattle.ixp_lang_tokens.specs.declared.fault.Cause.{Cause}
use Rattle.ixp_lang_tokens.specs.declared.fault.Cause.TheVariants.{Mixed, Deep}
use Rattle.ixp_lang_tokens.specs.declared.token.Kind.{Kind}
use Rattle.ixp_lang_tokens.specs.declared.token.Kind.TheVariants as kind
use Rattle.ixp_lang_tokens.specs.declared.token.Mark.{Mark}
use Rattle.ixp_lang_tokens.specs.declared.token.Mark.TheVariants as mark
use Rattle.ixp_lang_tokens.specs.Pieces.{the_mark, is_mark, is_next}
use Rattle.ixp_lang_tokens.specs.Grammars.{Grammar, gives, takes, sequence, choice, rounds, checks, bars, Step, onward, done}
use Rattle.ixp_lang_tokens.specs.Syntax.{Spot, spot, Fine}
use Rattle.ixp_lang_tokens.proofs.Fronts.{marked, name, Starts, are_apart, starts_apart, starts_never}
use Rattle.ixp_lang_tokens.proofs.Fines.{Moves, moves, more_rounds}
use Rattle.ixp_lang_tokens.proofs.Looks.{Look, full_look, token_look}
use Rattle.ixp_lang_tokens.proofs.ClearLooks.{Clearly, clear_token, clear_bars, first_test}
use Rattle.ixp_lang_tokens.proofs.Known.{next_mark}
use Rattle.ixp_lang_tokens.proofs.Viable.{HasText, Supplied, supplied_takes, supplied_bars, supplied_rounds, supplied_end}
use Rattle.ixp_lang_tokens.proofs.Whole.{Part, Whole, can_end, can_follow, passes_on, part_of, whole_gives, whole_takes, text_behind, text_free, whole_then, part_then, whole_sequence, part_choice, whole_left, whole_right, whole_choice, whole_checks, part_here, whole_here, whole_wider}
use Rattle.ixp_lang_exprs.specs.declared.env.Signature.{Signature}
use Rattle.ixp_lang_exprs.specs.declared.wanted.Wanted.{Wanted}
use Rattle.ixp_lang_exprs.specs.declared.types.ValueType.{ValueType}
use Rattle.ixp_lang_exprs.specs.declared.types.ValueType.TheVariants.{Bool as Truth}
use Rattle.ixp_lang_exprs.specs.Operands.{Operand, anything, one_type}
use Rattle.ixp_lang_exprs.specs.Expressions.{Place, has_parts, length_of, part_in, word_in, attribute_in, outside_define, check_word, operator_in, literal_in, front_in, attribute_form, Shape, plain, arguments, roa_values, part_end_in, may_go_on, may_end, Parts, part_form, some_parts, no_parts, with_part, ends_with, wanted_part, enclosed, Chain, chained, comparison_of, chain_part, chain_of, expression_of, Deeper, nothing, deeper, opened, negation_form, plain_form, call_form, name_form, named_form, called, check_form, roa_table, set_form, operand_form, unary_form, expression_form, front}
use Rattle.ixp_lang_exprs.proofs.KnownTokens.{literals, checks_word, attributes, operators, parts, part_ends, known_literal, known_part, known_attribute, known_check, known_operator, known_part_end, front_tokens, known_front_token}
use Rattle.ixp_lang_exprs.proofs.ClearExpressions.{operand_starts, unary_look, comparison_look, expression_bars, expression_look, behind_name, clear_chain_rounds, clear_part_text, clear_parts_rounds, clear_unary}
use Rattle.ixp_lang_exprs.proofs.WholeLists.{whole_mark, whole_name, part_only, whole_ended, whole_level}
use Rattle.ixp_lang_exprs.proofs.WholeSets.{whole_elements}

-- Single tokens.

whole_part : (a : Attr) → Whole (takes (word_in (part_in a))) (takes (word_in (part_in a))) (token_look parts) []
whole_part a = whole_takes (kind.Word (codes "len")) (length_of a) refl (clear_token _ _ (known_part a))

whole_operator : Whole (takes operator_in) (takes operator_in) (token_look operators) []
whole_operator = whole_takes (kind.Mark mark.Equal) op.Eq refl (clear_token _ _ known_operator)

whole_front_token : Whole (takes front_in) (takes front_in) (token_look front_tokens) []
whole_front_token = whole_takes (kind.Number 0) tt refl (clear_token _ _ known_front_token)

whole_literal : Whole (takes literal_in) (takes literal_in) (token_look literals) []
whole_literal = whole_takes (kind.Number 0) _ refl (clear_token _ _ known_literal)

part_attribute : (at : Place) → Part (takes (word_in (outside_define at attribute_in))) (takes (word_in (outside_define at attribute_in))) (token_look attributes) []
part_attribute at = record { supplied = supplied_takes _; clearly = clear_token _ _ (known_attribute at) }

part_check : (at : Place) → Part (takes (word_in (outside_define at check_word))) (takes (word_in (outside_define at check_word))) (token_look checks_word) []
part_check at = record { supplied = supplied_takes _; clearly = clear_token _ _ (known_check at) }

whole_attribute_text : (wanted : Wanted) (a : Attr) → Whole (attribute_form wanted a) (attribute_form wanted a) (record { leads = false; full = false; starts = marked mark.Dot ∷ []; ends = marked mark.Dot ∷ [] }) []
whole_attribute_text wanted a =
    whole_checks
    (whole_right (part_only (has_parts a) (part_of (whole_then (whole_mark mark.Dot) (λ x. whole_then (whole_part a) (λ p. whole_gives _))))) (whole_gives _) refl refl)

-- Chains.

module _ (unary upper : Wanted → Grammar Operand) (w : (wanted : Wanted) → Whole (unary wanted) (upper wanted) unary_look []) where
  whole_comparison : (wanted : Wanted) → Whole (comparison_of unary wanted) (comparison_of upper wanted) comparison_look []
  whole_comparison wanted =
      whole_wider
      (whole_sequence (w wanted) (λ left.
      whole_checks
      (whole_here (λ place.
      whole_choice (whole_then whole_operator (λ o. whole_checks (whole_sequence (w anything) (λ right. whole_checks (whole_gives _)) refl refl))) (whole_gives _) refl refl))) refl refl)
      refl refl

  module _ (joint other : Mark) (joined : ExprTrees → ExprTree) where
    -- the joint, or the end, of which the text is nothing
    joint_text : (f : Grammar (Step Chain Operand)) (v : Step Chain Operand) → HasText (bars (is_next (is_mark other)) Mixed (choice f (gives v)))
    joint_text f v p = (v, [], p, (refl, inr (refl, refl)))

    abbrev joint_or_end : Step Chain Operand → Step Chain Operand → Option (Cause × ℕ) → Grammar (Step Chain Operand)
    joint_or_end go stay o = choice (sequence (the_mark joint) (λ x. checks o (gives go))) (gives stay)

    part_joint : (go stay : Step Chain Operand) (o : Option _)
        → Whole (bars (is_next (is_mark other)) Mixed (choice (sequence (the_mark joint) (λ x. checks o (gives go))) (gives stay)))
        (bars (is_next (is_mark other)) Mixed (choice (sequence (the_mark joint) (λ x. checks o (gives go))) (gives stay)))
        (record { leads = false; full = false; starts = marked other ∷ marked joint ∷ []; ends = marked joint ∷ [] }) (marked other ∷ [])
    part_joint go stay o =
        let inner = part_choice (part_of (whole_then (whole_mark joint) (λ x. whole_checks (whole_gives go)))) (part_of (whole_gives stay)) refl refl in
        record {
          supplied = supplied_bars (is_next (is_mark other)) Mixed _ _ inner.supplied (passes_on (is_next (is_mark other)) (joint_or_end go stay o) (joint_or_end go stay o) (first_test (is_mark other)));
          clearly = clear_bars (is_next (is_mark other)) Mixed (marked other ∷ []) (next_mark other) inner.clearly (first_test (is_mark other));
          text = joint_text (sequence (the_mark joint) (λ x. checks o (gives go))) stay;
        }

    whole_chain_part : are_apart (marked other ∷ marked joint ∷ []) (marked mark.Dot ∷ operators) ≡ true → (chain : Chain)
        → Whole (chain_part unary joint other joined chain) (chain_part upper joint other joined chain) (full_look operand_starts (marked joint ∷ marked mark.Dot ∷ operators)) (marked other ∷ [])
    whole_chain_part apart chain = whole_sequence (whole_comparison (one_type Truth chain.place)) (λ part. whole_here (λ place. part_joint _ _ _)) apart refl

    last_part : (chain : Chain) → HasText (rounds (chain_part upper joint other joined) chain)
    last_part chain p = by_text ((whole_comparison (one_type Truth chain.place)).text p)
      where
        by_text : (v : Operand) × (ts : List Kind) × (q : ℕ) × Fine (comparison_of upper (one_type Truth chain.place)) v (spot p ts) (spot q []) → (v : Operand) × (ts : List Kind) × (q : ℕ) × Fine (rounds (chain_part upper joint other joined) chain) v (spot p ts) (spot q [])
        by_text (v, ts, q, fine) = (chained joined chain v, ts, q, (zero, (v, spot q [], fine, (refl, inr (refl, refl)))))

    whole_chain_rounds : are_apart (marked other ∷ marked joint ∷ []) (marked mark.Dot ∷ operators) ≡ true → are_apart operand_starts (marked other ∷ []) ≡ true → (chain : Chain)
        → Whole (rounds (chain_part unary joint other joined) chain) (rounds (chain_part upper joint other joined) chain) (full_look operand_starts (marked joint ∷ marked mark.Dot ∷ operators)) (marked other ∷ [])
    whole_chain_rounds apart free chain = record {
      supplied =
          supplied_rounds (chain_part unary joint other joined) (chain_part upper joint other joined) chain (λ t. Unit {0}) tt (λ t i. (whole_chain_part apart t).supplied) (λ t u x y i fine. tt)
          (λ t u i j.
          can_end (chain_part upper joint other joined t) (rounds (chain_part upper joint other joined) u) (whole_chain_part apart t).clearly.clear (onward u)
          (text_behind (chain_part upper joint other joined t) (rounds (chain_part upper joint other joined) u) (full_look operand_starts (marked joint ∷ marked mark.Dot ∷ operators))
          (full_look operand_starts (marked joint ∷ marked mark.Dot ∷ operators)) (marked other ∷ []) (marked other ∷ []) (whole_chain_part apart t).clearly
          (clear_chain_rounds upper (λ wanted. (w wanted).clearly) joint other joined apart u) free (last_part u) (onward u)))
          (λ t u i j. can_follow (chain_part upper joint other joined t) (rounds (chain_part upper joint other joined) u) (whole_chain_part apart t).clearly.clear (onward u));
      clearly = clear_chain_rounds upper (λ wanted. (w wanted).clearly) joint other joined apart chain;
      text = last_part chain;
    }

    whole_chain : are_apart (marked other ∷ marked joint ∷ []) (marked mark.Dot ∷ operators) ≡ true → are_apart operand_starts (marked other ∷ []) ≡ true → (first : Operand) (place : ℕ)
        → Whole (chain_of unary joint other joined first place) (chain_of upper joint other joined first place) (full_look (marked joint ∷ []) (marked joint ∷ marked mark.Dot ∷ operators)) (marked other ∷ [])
    whole_chain apart free first place = whole_then (whole_mark joint) (λ x. whole_checks (whole_chain_rounds apart free _))

  pub whole_expression : (wanted : Wanted) → Whole (expression_of unary wanted) (expression_of upper wanted) expression_look expression_bars
  whole_expression wanted =
      whole_wider
      (whole_sequence (whole_comparison wanted) (λ first.
      whole_here (λ place.
      whole_choice (whole_chain mark.And mark.Or conjunction refl refl first place)
      (whole_choice (whole_chain mark.Or mark.And disjunction refl refl first place) (whole_gives first) refl refl) refl refl)) refl refl)
      refl refl

-- What stands in parentheses.

-- a comma where the parts may go on
goes_if : (a b c d : Bool) → (if a && b then Some false else (if c && d then Some true else None)) ≡ Some false → a ≡ true
goes_if true b c d e = refl
goes_if false b true true e = absurd cc
goes_if false b true false e = absurd cc
goes_if false b false d e = absurd cc

ends_if : (a : Bool) → (if a && false then Some false else Some true) ≡ Some true
ends_if true = refl
ends_if false = refl

onward_is : (t u : Parts) → ◌≡◌ {A = Step Parts Parts} (onward t) (onward u) → t ≡ u
onward_is t u e = cc

whole_front : (at : Place) → Whole (front at) (front at) (token_look (front_tokens ++ name ∷ [])) []
whole_front at = whole_choice whole_front_token (whole_here (λ left. whole_then whole_name (λ n. whole_checks (whole_gives _)))) refl refl

module _ (expression longer_one : Wanted → Grammar Operand) (w : (wanted : Wanted) → Whole (expression wanted) (longer_one wanted) expression_look expression_bars) where
  longer_known : (wanted : Wanted) → Clearly (longer_one wanted) expression_look expression_bars
  longer_known wanted = (w wanted).clearly

  -- the end of a part, where some token is one
  whole_part_end : (shape : Shape) (index : ℕ) (k : Kind) (b : Bool) → part_end_in shape index k ≡ Some b → Whole (takes (part_end_in shape index)) (takes (part_end_in shape index)) (token_look part_ends) []
  whole_part_end shape index k b is = whole_takes k b is (clear_token _ _ (known_part_end shape index))

  whole_part_text : (shape : Shape) (place : ℕ) (before : Parts) (k : Kind) (b : Bool) → part_end_in shape (length before.trees) k ≡ Some b
      → Whole (part_form expression shape place before) (part_form longer_one shape place before) (token_look operand_starts) []
  whole_part_text shape place before k b is =
      whole_here (λ left. whole_sequence (w (wanted_part shape (length before.trees) place)) (λ operand. whole_then (whole_part_end shape (length before.trees) k b is) (λ is_last. whole_checks (whole_gives _))) refl refl)

  -- one part and what ends it
  one_part : (shape : Shape) (place : ℕ) (before : Parts) (k : Kind) (b : Bool) → part_end_in shape (length before.trees) k ≡ Some b → (p : ℕ)
      → (operand : Operand) × (ts : List Kind) × (q : ℕ) × Fine (part_form longer_one shape place before) (ends_with b (with_part before operand)) (spot p ts) (spot q [])
  one_part shape place before k b is p = by_text ((w (wanted_part shape (length before.trees) place)).text p)
    where
      part_ends_there : Starts part_ends (k ∷ [])
      part_ends_there = (known_part_end shape (length before.trees)).starts (k ∷ []) (ap is_some is)

      by_moves : (operand : Operand) (ts : List Kind) (q : ℕ) → Moves (longer_one (wanted_part shape (length before.trees) place)) operand p ts q []
          → (operand : Operand) × (ts : List Kind) × (q : ℕ) × Fine (part_form longer_one shape place before) (ends_with b (with_part before operand)) (spot p ts) (spot q [])
      by_moves operand ts q m = (
        operand,
        m.taken ++ k ∷ [],
        pred q,
        (
          operand,
          spot q (k ∷ []),
          m.again (k ∷ []) (inr (λ s. starts_apart part_ends expression_bars (k ∷ []) refl part_ends_there ((w (wanted_part shape (length before.trees) place)).clearly.spoils operand (k ∷ []) s))),
          (b, spot (pred q) [], (is, refl), (refl, refl)),
        ),
      )

      by_text : (operand : Operand) × (ts : List Kind) × (q : ℕ) × Fine (longer_one (wanted_part shape (length before.trees) place)) operand (spot p ts) (spot q [])
          → (operand : Operand) × (ts : List Kind) × (q : ℕ) × Fine (part_form longer_one shape place before) (ends_with b (with_part before operand)) (spot p ts) (spot q [])
      by_text (operand, ts, q, fine) = by_moves operand ts q (moves (longer_one (wanted_part shape (length before.trees) place)) (w (wanted_part shape (length before.trees) place)).clearly.clear operand p ts (spot q []) fine)

  -- the last part
  last_part_text : (shape : Shape) (place : ℕ) (before : Parts) (k : Kind) → part_end_in shape (length before.trees) k ≡ Some true → HasText (rounds (part_form longer_one shape place) before)
  last_part_text shape place before k is p = by_text (one_part shape place before k true is p)
    where
      by_text : (operand : Operand) × (ts : List Kind) × (q : ℕ) × Fine (part_form longer_one shape place before) (done (with_part before operand)) (spot p ts) (spot q [])
          → (v : Parts) × (ts : List Kind) × (q : ℕ) × Fine (rounds (part_form longer_one shape place) before) v (spot p ts) (spot q [])
      by_text (operand, ts, q, fine) = (with_part before operand, ts, q, (zero, fine))

  -- one more part, and then others
  more_part_text : (shape : Shape) (place : ℕ) (before : Parts) (k : Kind) → part_end_in shape (length before.trees) k ≡ Some false
      → ((operand : Operand) → HasText (rounds (part_form longer_one shape place) (with_part before operand))) → HasText (rounds (part_form longer_one shape place) before)
  more_part_text shape place before k is others p = by_text (one_part shape place before k false is p)
    where
      by_others : (operand : Operand) (ts : List Kind) (m : ℕ) → Moves (part_form longer_one shape place before) (onward (with_part before operand)) p ts m []
          → (v : Parts) × (more : List Kind) × (q : ℕ) × Fine (rounds (part_form longer_one shape place) (with_part before operand)) v (spot m more) (spot q [])
          → (v : Parts) × (ts : List Kind) × (q : ℕ) × Fine (rounds (part_form longer_one shape place) before) v (spot p ts) (spot q [])
      by_others operand ts m moved (v, more, q, fine) = (
        v,
        moved.taken ++ more,
        q,
        more_rounds (part_form longer_one shape place) before (with_part before operand) v (spot p (moved.taken ++ more)) (spot m more) (spot q [])
            (moved.again more (inr (λ s. starts_never more ((clear_part_text longer_one longer_known shape place before).spoils (onward (with_part before operand)) more s)))) fine,
      )

      by_text : (operand : Operand) × (ts : List Kind) × (m : ℕ) × Fine (part_form longer_one shape place before) (onward (with_part before operand)) (spot p ts) (spot m [])
          → (v : Parts) × (ts : List Kind) × (q : ℕ) × Fine (rounds (part_form longer_one shape place) before) v (spot p ts) (spot q [])
      by_text (operand, ts, m, fine) =
          by_others operand ts m
          (moves (part_form longer_one shape place before) (clear_part_text longer_one longer_known shape place before).clear (onward (with_part before operand)) p ts (spot m []) fine)
          (others operand m)

  -- the parts of a shape, by what is known of those before each
  whole_rounds : (shape : Shape) (place : ℕ) (I : Parts → Type 0) → ((t : Parts) → I t → (k : Kind) × (b : Bool) × (part_end_in shape (length t.trees) k ≡ Some b))
      → ((t u : Parts) (x y : Spot) → I t → Fine (part_form longer_one shape place t) (onward u) x y → I u) → ((t : Parts) → I t → HasText (rounds (part_form longer_one shape place) t)) → (t : Parts) → I t
      → Whole (rounds (part_form expression shape place) t) (rounds (part_form longer_one shape place) t) (token_look operand_starts) []
  whole_rounds shape place I tokens keeps texts t i = record {
    supplied =
        supplied_rounds (part_form expression shape place) (part_form longer_one shape place) t I i (λ s j. by_token s (tokens s j)) keeps
        (λ s u j k.
        can_end (part_form longer_one shape place s) (rounds (part_form longer_one shape place) u) (clear_part_text longer_one longer_known shape place s).clear (onward u)
        (text_free (part_form longer_one shape place s) (rounds (part_form longer_one shape place) u) (token_look operand_starts) (clear_part_text longer_one longer_known shape place s) (texts u k) (onward u)))
        (λ s u j k. can_follow (part_form longer_one shape place s) (rounds (part_form longer_one shape place) u) (clear_part_text longer_one longer_known shape place s).clear (onward u));
    clearly = clear_parts_rounds longer_one longer_known shape place t;
    text = texts t i;
  }
    where
      by_token : (s : Parts) → (k : Kind) × (b : Bool) × (part_end_in shape (length s.trees) k ≡ Some b) → Supplied (Step Parts Parts) (part_form expression shape place s) (part_form longer_one shape place s)
      by_token s (k, b, is) = (whole_part_text shape place s k b is).supplied

  plain_ends : (index : ℕ) → part_end_in plain index (kind.Mark mark.Close) ≡ Some true
  plain_ends index = ends_if (may_go_on plain index)

  arguments_end : (params : List ValueType) (index : ℕ) → part_end_in (arguments params) index (kind.Mark mark.Close) ≡ Some true
  arguments_end params index = refl

  -- of the two values of `roa_check` the first one is followed by another
  first_value : (index : ℕ) → index ≡ 0 → part_end_in roa_values index (kind.Mark mark.Comma) ≡ Some false
  first_value index e = subst (λ n. part_end_in roa_values n (kind.Mark mark.Comma) ≡ Some false) (sym e) refl

  second_value : (index : ℕ) → index ≡ 1 → part_end_in roa_values index (kind.Mark mark.Close) ≡ Some true
  second_value index e = subst (λ n. part_end_in roa_values n (kind.Mark mark.Close) ≡ Some true) (sym e) refl

  roa_token : (n : ℕ) (index : ℕ) → index ≡ n → n ≤ 1 → (k : Kind) × (b : Bool) × (part_end_in roa_values index k ≡ Some b)
  roa_token zero index e few = (kind.Mark mark.Comma, false, first_value index e)
  roa_token (suc zero) index e few = (kind.Mark mark.Close, true, second_value index e)
  roa_token (suc (suc n)) index e few = absurd (omega arith)

  second_text : (place : ℕ) (t : Parts) → length t.trees ≡ 1 → HasText (rounds (part_form longer_one roa_values place) t)
  second_text place t e = last_part_text roa_values place t (kind.Mark mark.Close) (second_value (length t.trees) e)

  one_more : (t : Parts) (operand : Operand) → length (with_part t operand).trees ≡ length t.trees + 1
  one_more t operand = length-append t.trees (operand.tree ∷ [])

  roa_text : (place : ℕ) (t : Parts) (n : ℕ) → length t.trees ≡ n → n ≤ 1 → HasText (rounds (part_form longer_one roa_values place) t)
  roa_text place t zero e few =
      more_part_text roa_values place t (kind.Mark mark.Comma) (first_value (length t.trees) e) (λ operand. second_text place (with_part t operand) (let more = one_more t operand in omega arith))
  roa_text place t (suc zero) e few = second_text place t e
  roa_text place t (suc (suc n)) e few = absurd (omega arith)

  roa_keeps : (place : ℕ) (t u : Parts) (x y : Spot) → length t.trees ≤ 1 → Fine (part_form longer_one roa_values place t) (onward u) x y → length u.trees ≤ 1
  roa_keeps place t u x y few (operand, z, one, (true, z2, takes_it, (same, there))) = absurd cc
  roa_keeps place t u x y few (operand, (zp, []), one, (false, z2, takes_it, (same, there))) = absurd takes_it
  roa_keeps place t u x y few (operand, (zp, k ∷ ts), one, (false, z2, (is, rest), (same, there))) =
      let goes : nat_lt (length t.trees) 1 ≡ true = goes_if (may_go_on roa_values (length t.trees)) (is_mark mark.Comma k) (may_end roa_values (length t.trees)) (is_mark mark.Close k) is in
      let less : length t.trees < 1 = ltb-true (length t.trees) 1 goes in
      let more = one_more t operand in
      subst (λ v. length v.trees ≤ 1) (sym (onward_is u (with_part t operand) same)) (omega arith)

  pub whole_some_parts : (shape : Shape) (place : ℕ) → Whole (some_parts expression shape place) (some_parts longer_one shape place) (token_look operand_starts) []
  whole_some_parts plain place =
      whole_here (λ left. whole_rounds plain place (λ t. Unit {0}) (λ t i. (kind.Mark mark.Close, true, plain_ends (length t.trees))) (λ t u x y i fine. tt)
      (λ t i. last_part_text plain place t (kind.Mark mark.Close) (plain_ends (length t.trees))) (no_parts left) tt)
  whole_some_parts (arguments params) place =
      whole_here (λ left. whole_rounds (arguments params) place (λ t. Unit {0}) (λ t i. (kind.Mark mark.Close, true, arguments_end params (length t.trees))) (λ t u x y i fine. tt)
      (λ t i. last_part_text (arguments params) place t (kind.Mark mark.Close) (arguments_end params (length t.trees))) (no_parts left) tt)
  whole_some_parts roa_values place =
      whole_here (λ left. whole_rounds roa_values place (λ t. length t.trees ≤ 1) (λ t few. roa_token (length t.trees) (length t.trees) refl few) (roa_keeps place)
      (λ t few. roa_text place t (length t.trees) refl few) (no_parts left) (omega arith))

  pub whole_enclosed : (at : Place) (shape : Shape) (place : ℕ) → Whole (enclosed at expression shape place) (enclosed at longer_one shape place) (token_look (marked mark.Close ∷ operand_starts)) []
  whole_enclosed at (arguments []) place =
      whole_wider (whole_here (λ left. whole_choice (whole_ended mark.Close (no_parts left)) (whole_then (whole_front at) (λ x. whole_checks (whole_gives _))) refl refl)) refl refl
  whole_enclosed at (arguments (p ∷ ps)) place =
      whole_choice (whole_then (whole_mark mark.Close) (λ x. whole_checks (whole_gives _))) (whole_some_parts (arguments (p ∷ ps)) place) refl refl
  whole_enclosed at plain place = whole_wider (whole_some_parts plain place) refl refl
  whole_enclosed at roa_values place = whole_wider (whole_some_parts roa_values place) refl refl

-- What stands alone, and what it is where more levels are left.

pub data Above : Deeper → Deeper → Type 1 where
  first_level : (upper : Wanted → Grammar Operand) → ((wanted : Wanted) → Clearly (upper wanted) unary_look []) → ((wanted : Wanted) → HasText (upper wanted)) → Above nothing (deeper upper)
  next_level : (unary upper : Wanted → Grammar Operand) → ((wanted : Wanted) → Whole (unary wanted) (upper wanted) unary_look []) → Above (deeper unary) (deeper upper)

-- what a check always refuses is supplied by what it checks
refused_is : (upper : Grammar Operand) → Clearly upper unary_look [] → HasText upper → Whole (checks (Some (Deep, 0)) upper) upper unary_look []
refused_is upper known text = record { supplied = supplied_end (checks (Some (Deep, 0)) upper) upper (λ x. refl) (λ x. inr (inl (x.1, refl))); clearly = known; text = text }

whole_opened : {A : Type 0} {f : (Wanted → Grammar Operand) → Grammar A} {l : Look} (m : Mark) (inner outer : Deeper) → Above inner outer
    → ((unary upper : Wanted → Grammar Operand) → ((wanted : Wanted) → Whole (unary wanted) (upper wanted) unary_look []) → Whole (f unary) (f upper) l []) → Whole (opened m inner f) (opened m outer f) (full_look (marked m ∷ []) l.ends) []
whole_opened m _ _ (first_level upper known text) wf = whole_level m (λ x. wf (λ wanted. checks (Some (Deep, 0)) (upper wanted)) upper (λ wanted. refused_is (upper wanted) (known wanted) (text wanted)))
whole_opened m _ _ (next_level unary upper w) wf = whole_then (whole_mark m) (λ x. wf unary upper w)

whole_negation : (inner outer : Deeper) → Above inner outer → Whole (negation_form inner) (negation_form outer) (full_look (marked mark.Not ∷ []) (marked mark.Dot ∷ [])) []
whole_negation inner outer above =
    whole_here (λ place. whole_opened mark.Not inner outer above (λ unary upper w. whole_sequence (w anything) (λ operand. whole_checks (whole_gives _)) refl refl))

whole_plain : (at : Place) (inner outer : Deeper) → Above inner outer → Whole (plain_form at inner) (plain_form at outer) (token_look (marked mark.Open ∷ [])) []
whole_plain at inner outer above =
    whole_opened mark.Open inner outer above (λ unary upper w.
    whole_then (whole_enclosed (expression_of unary) (expression_of upper) (whole_expression unary upper w) at plain at.statement) (λ ps. whole_gives _))

whole_call : (at : Place) (inner outer : Deeper) → Above inner outer → (called_as : List ℕ) (place : ℕ) (signature : Signature)
    → Whole (call_form at inner called_as place signature) (call_form at outer called_as place signature) (token_look (marked mark.Open ∷ [])) []
whole_call at inner outer above called_as place signature =
    whole_checks
    (whole_opened mark.Open inner outer above (λ unary upper w.
    whole_then (whole_enclosed (expression_of unary) (expression_of upper) (whole_expression unary upper w) at (arguments signature.params) place) (λ ps. whole_gives _)))

whole_behind_name : (at : Place) (inner outer : Deeper) → Above inner outer → (called_as : List ℕ) (place : ℕ) (s : Option Signature) → Whole (name_form at inner called_as place s) (name_form at outer called_as place s) behind_name []
whole_behind_name at inner outer above called_as place (Some signature) = whole_wider (whole_call at inner outer above called_as place signature) refl refl
whole_behind_name at inner outer above called_as place None = whole_wider (whole_checks (whole_gives _)) refl refl

whole_named : (at : Place) (inner outer : Deeper) → Above inner outer → Whole (named_form at inner) (named_form at outer) (token_look (name ∷ [])) []
whole_named at inner outer above = whole_here (λ place. whole_then whole_name (λ called_as. whole_behind_name at inner outer above called_as place (called at called_as)))

whole_roa_table : (at : Place) (place : ℕ) → Whole (roa_table at place) (roa_table at place) (token_look (name ∷ [])) []
whole_roa_table at place = whole_here (λ left. whole_then whole_name (λ table. whole_checks (whole_gives _)))

part_check_text : (at : Place) (inner outer : Deeper) → Above inner outer → Part (check_form at inner) (check_form at outer) (token_look checks_word) []
part_check_text at inner outer above =
    part_here (λ place.
    part_then (part_check at) (λ x.
    whole_opened mark.Open inner outer above (λ unary upper w.
    whole_then (whole_roa_table at place) (λ table.
    whole_then (whole_mark mark.Comma) (λ y.
    whole_then (whole_enclosed (expression_of unary) (expression_of upper) (whole_expression unary upper w) at roa_values place) (λ ps. whole_gives _))))))

whole_set : (at : Place) (inner outer : Deeper) → Above inner outer → Whole (set_form at inner) (set_form at outer) (token_look (marked mark.SetOpen ∷ [])) []
whole_set at _ _ (first_level upper known text) = whole_then (whole_mark mark.SetOpen) (λ x. whole_then (whole_elements at.names false) (λ s. whole_gives _))
whole_set at _ _ (next_level unary upper w) = whole_then (whole_mark mark.SetOpen) (λ x. whole_then (whole_elements at.names true) (λ s. whole_gives _))

whole_operand : (at : Place) (inner outer : Deeper) → Above inner outer → (wanted : Wanted) → Whole (operand_form at inner wanted) (operand_form at outer wanted) unary_look []
unfolding operand_form
whole_operand at inner outer above wanted =
    whole_wider
    (whole_right (part_of (whole_negation inner outer above))
    (whole_right (part_of (whole_plain at inner outer above))
    (whole_right (part_check_text at inner outer above)
    (whole_right (part_of (whole_named at inner outer above))
    (whole_left whole_literal
    (part_choice (part_then (part_attribute at) (whole_attribute_text wanted)) (part_of (whole_set at inner outer above)) refl refl)
    refl refl) refl refl) refl refl) refl refl) refl refl)
    refl refl

-- a number is a text at any place and number of levels
operand_has_text : (at : Place) (inner : Deeper) (wanted : Wanted) → HasText (operand_form at inner wanted)
unfolding operand_form
operand_has_text at inner wanted p = (_, kind.Number 0 ∷ [], pred p, inr (inr (inr (inr (inl (refl, refl))))))

unary_has_text : (at : Place) (levels : ℕ) (wanted : Wanted) → HasText (unary_form at levels wanted)
unary_has_text at zero = operand_has_text at nothing
unary_has_text at (suc levels) = operand_has_text at (deeper (unary_form at levels))

whole_unary : (at : Place) (levels more : ℕ) → levels < more → (wanted : Wanted) → Whole (unary_form at levels wanted) (unary_form at more wanted) unary_look []
whole_unary at levels zero less = absurd (omega arith)
whole_unary at zero (suc more) less = whole_operand at nothing (deeper (unary_form at more)) (first_level (unary_form at more) (clear_unary at more) (unary_has_text at more))
whole_unary at (suc levels) (suc more) less =
    whole_operand at (deeper (unary_form at levels)) (deeper (unary_form at more)) (next_level (unary_form at levels) (unary_form at more) (whole_unary at levels more (omega arith)))

pub whole_expression_text : (at : Place) (levels more : ℕ) → levels < more → (wanted : Wanted) → Whole (expression_form at levels wanted) (expression_form at more wanted) expression_look expression_bars
whole_expression_text at levels more less wanted = whole_expression (unary_form at levels) (unary_form at more) (whole_unary at levels more less) wanted
