-- What a text spells in parentheses fits: one expression, a tuple, arguments, and the values of `roa_check`.
use Rattle.std.proofs.Common.{◌≡◌, ℕ, zero, suc, Bool, true, false, ◌&&◌, ◌==◌, not, List, [], ◌∷◌, ◌++◌, length, Option, Some, None, refl, if◌then◌else◌}
use Rattle.std.specs.Option.{is_some, option_or}
use Rattle.ixp_lang.specs.Trees.{ExprTree, literal, pair, triple, exprs}
use Rattle.ixp_lang.specs.declared.value.Value.TheVariants as value
use Rattle.ixp_lang_tokens.specs.declared.token.Kind.{Kind}
use Rattle.ixp_lang_tokens.specs.declared.token.Mark.TheVariants as mark
use Rattle.ixp_lang_tokens.specs.Grammars.{Grammar}
use Rattle.ixp_lang_tokens.specs.Pieces.{is_mark}
use Rattle.ixp_lang_exprs.specs.declared.types.ValueType.{ValueType}
use Rattle.ixp_lang_exprs.specs.declared.types.ValueType.TheVariants.{Int, Prefix, Pair, Triple}
use Rattle.ixp_lang_exprs.specs.declared.context.Scope.{Scope}
use Rattle.ixp_lang_exprs.specs.Names.{Names}
use Rattle.ixp_lang_exprs.specs.Sets.{unless_so}
use Rattle.ixp_lang_exprs.specs.Operands.{Operand, closed, misfit_at, literal_number, pair_with, triple_with, fits as fits_type}
use Rattle.ixp_lang_exprs.specs.declared.wanted.Wanted.{Wanted}
use Rattle.ixp_lang_exprs.specs.Expressions.{Place, Shape, plain, arguments, roa_values, may_go_on, may_end, part_end_in, fits_argument, Parts, no_parts, wanted_part, with_part, fits_pair, fits_plain, fits_next, ends_with, some_parts, front, enclosed, plain_tree, plain_operand}
use Rattle.ixp_lang_laws.specs.Sound.{is_small, is_small_pair, arguments_fit}
use Rattle.ixp_lang_laws.proofs.SaidBasics.{Within, both, both_none, is_so, none_settled}
use Rattle.ixp_lang_laws.proofs.SaidSets.{small_part}
use Rattle.ixp_lang_laws.proofs.Saying.{Says, Any, Next, says_gives, says_takes, says_token, says_sequence, says_then, says_choice, says_checks, says_here, says_rounds, says_mark, says_name, says_ended, AreAll, all_more}
use Rattle.ixp_lang_laws.proofs.SaidExpressions.{Whole, Alone, Sound, Settled, Of, of_type, enclosed_alone}

-- What ends the last part.

chosen : (on comma end close : Bool) → (if on && comma then Some false else (if end && close then Some true else None)) ≡ Some true → end ≡ true
chosen true true end close e = absurd cc
chosen true false true close e = refl
chosen true false false close e = absurd cc
chosen false comma true close e = refl
chosen false comma false close e = absurd cc

-- the last part may be so
abbrev Ends : Shape → ℕ → Bool → Type 0
Ends shape index is_last = is_last ≡ true → may_end shape index ≡ true

end_says : (shape : Shape) (index : ℕ) (k : Kind) (is_last : Bool) → part_end_in shape index k ≡ Some is_last → Ends shape index is_last
end_says shape index k true e = λ last. chosen (may_go_on shape index) (is_mark mark.Comma k) (may_end shape index) (is_mark mark.Close k) e
end_says shape index k false e = λ last. absurd cc

module _ (names : Names) (scope : Scope) where
  -- Tuples.

  pair_fits : (n : ℕ) (a b : ExprTree) → (not (is_some (literal_number a) && is_some (literal_number b)) && is_small (literal_number a) && is_small (literal_number b)) ≡ true → Of names scope Int n a → Of names scope Int n b
      → Whole names scope (suc n) (pair a b)
  pair_fits n a b small one two zero w = absurd w
  pair_fits n a b small one two (suc m) w = both (both (both small one.0) two.0) (both (one.1 m w) (two.1 m w))

  literal_pair_fits : (n l r : ℕ) → is_small_pair (l, Some r) ≡ true → Whole names scope (suc n) (literal (value.Pair l r))
  literal_pair_fits n l r small zero w = absurd w
  literal_pair_fits n l r small (suc m) w = small

  literal_triple_fits : (n i j k : ℕ) → Whole names scope (suc n) (literal (value.Triple i j k))
  literal_triple_fits n i j k zero w = absurd w
  literal_triple_fits n i j k (suc m) w = refl

  triple_fits : (n : ℕ) (a b c : ExprTree) → not (is_some (literal_number a) && is_some (literal_number b) && is_some (literal_number c)) ≡ true → Of names scope Int n a → Of names scope Int n b → Of names scope Int n c
      → Whole names scope (suc n) (triple a b c)
  triple_fits n a b c other one two three zero w = absurd w
  triple_fits n a b c other one two three (suc m) w = both (both (both (both other one.0) two.0) three.0) (both (both (one.1 m w) (two.1 m w)) (three.1 m w))

  -- an operand of this type that fits alone
  abbrev Closed : ℕ → ValueType → ExprTree → Type 0
  Closed n t e = Settled names scope (Alone names scope n) (closed e t)

  simple_pair : (n : ℕ) (a b : ExprTree) → Whole names scope n (pair a b) → Closed n Pair (pair a b)
  simple_pair n a b whole = (refl, refl, (whole, whole, whole))

  simple_triple : (n : ℕ) (a b c : ExprTree) → Whole names scope n (triple a b c) → Closed n Triple (triple a b c)
  simple_triple n a b c whole = (refl, refl, (whole, whole, whole))

  pair_sound : (n : ℕ) (a b : ExprTree) (l r : Option ℕ) → literal_number a ≡ l → literal_number b ≡ r → is_small l ≡ true → is_small r ≡ true → Of names scope Int n a → Of names scope Int n b
      → Closed (suc n) Pair (pair_with a b l r)
  pair_sound n a b (Some l) (Some r) la lb sl sr one two =
      (let whole : Whole names scope (suc n) (literal (value.Pair l r)) = literal_pair_fits n l r (both sl sr) in (refl, refl, (whole, whole, whole)))
  pair_sound n a b (Some l) None la lb sl sr one two = simple_pair (suc n) a b (pair_fits n a b (rw (la, lb) (both sl refl)) one two)
  pair_sound n a b None r la lb sl sr one two = simple_pair (suc n) a b (pair_fits n a b (rw (la, lb) sr) one two)

  triple_sound : (n : ℕ) (a b c : ExprTree) (i j k : Option ℕ) → literal_number a ≡ i → literal_number b ≡ j → literal_number c ≡ k → Of names scope Int n a → Of names scope Int n b → Of names scope Int n c
      → Closed (suc n) Triple (triple_with a b c i j k)
  triple_sound n a b c (Some i) (Some j) (Some k) la lb lc one two three =
      (let whole : Whole names scope (suc n) (literal (value.Triple i j k)) = literal_triple_fits n i j k in (refl, refl, (whole, whole, whole)))
  triple_sound n a b c (Some i) (Some j) None la lb lc one two three =
      simple_triple (suc n) a b c (triple_fits n a b c (rw (la, lb, lc) refl) one two three)
  triple_sound n a b c (Some i) None k la lb lc one two three =
      simple_triple (suc n) a b c (triple_fits n a b c (rw (la, lb) refl) one two three)
  triple_sound n a b c None j k la lb lc one two three =
      simple_triple (suc n) a b c (triple_fits n a b c (rw la refl) one two three)

  -- One expression or a tuple.

  plain_goes : (n first left place : ℕ) (es : List ExprTree) (o : Operand) → Sound names scope (Whole names scope n) o → fits_plain es first false o left place ≡ None → Of names scope Int n o.tree
  plain_goes n first left place [] o sound e = of_type names scope n o Int place sound e
  plain_goes n first left place (a ∷ []) o sound e = of_type names scope n o Int place sound e
  plain_goes n first left place (a ∷ b ∷ es) o sound e = of_type names scope n o Int place sound e

  plain_ends : (n first left place : ℕ) (es : List ExprTree) (o : Operand) → AreAll (Of names scope Int n) es → Sound names scope (Whole names scope n) o → fits_plain es first true o left place ≡ None
      → Settled names scope (Alone names scope (suc n)) (plain_tree (es ++ o.tree ∷ []) o.ty)
  plain_ends n first left place [] o all sound e = (sound.0, refl, enclosed_alone names scope n o.tree (sound.1 (none_settled o.misfit e)))
  plain_ends n first left place (a ∷ []) o (one, all) sound e =
      let h : (fits_pair a first ≡ None) × (option_or (fits_pair o.tree left) (fits_type o Int place) ≡ None) = both_none (fits_pair a first) _ e in
      let k : (fits_pair o.tree left ≡ None) × (fits_type o Int place ≡ None) = both_none (fits_pair o.tree left) _ h.1 in
      pair_sound n a o.tree (literal_number a) (literal_number o.tree) refl refl (small_part (literal_number a) first h.0) (small_part (literal_number o.tree) left k.0) one (of_type names scope n o Int place sound k.1)
  plain_ends n first left place (a ∷ b ∷ []) o (one, (two, all)) sound e =
      triple_sound n a b o.tree (literal_number a) (literal_number b) (literal_number o.tree) refl refl refl one two (of_type names scope n o Int place sound e)
  plain_ends n first left place (a ∷ b ∷ c ∷ es) o (one, (two, (three, all))) sound e =
      triple_sound n a b c (literal_number a) (literal_number b) (literal_number c) refl refl refl one two three

  -- Arguments.

  -- these are of the first of these types
  abbrev Begin : ℕ → List ValueType → List ExprTree → Type 0
  Begin n params [] = Unit {0}
  Begin n [] (e ∷ es) = ⊥
  Begin n (p ∷ ps) (e ∷ es) = Of names scope p n e × Begin n ps es

  -- and these of all of them
  abbrev Exactly : ℕ → List ValueType → List ExprTree → Type 0
  Exactly n [] [] = Unit {0}
  Exactly n (p ∷ ps) (e ∷ es) = Of names scope p n e × Exactly n ps es
  Exactly n _ _ = ⊥

  argument_goes : (n place : ℕ) (ps : List ValueType) (es : List ExprTree) (o : Operand) → Begin n ps es → Sound names scope (Whole names scope n) o → fits_argument ps (length es) false o place ≡ None → Begin n ps (es ++ o.tree ∷ [])
  argument_goes n place [] [] o begin sound e = absurd cc
  argument_goes n place [] (a ∷ es) o begin sound e = absurd begin
  argument_goes n place (p ∷ []) [] o begin sound e = (of_type names scope n o p place sound (both_none (fits_type o p place) _ e).0, tt)
  argument_goes n place (p ∷ q ∷ ps) [] o begin sound e = (of_type names scope n o p place sound (both_none (fits_type o p place) _ e).0, tt)
  argument_goes n place (p ∷ ps) (a ∷ es) o (one, begin) sound e = (one, argument_goes n place ps es o begin sound e)

  argument_ends : (n place : ℕ) (ps : List ValueType) (es : List ExprTree) (o : Operand) → Begin n ps es → Sound names scope (Whole names scope n) o → fits_argument ps (length es) true o place ≡ None → Exactly n ps (es ++ o.tree ∷ [])
  argument_ends n place [] [] o begin sound e = absurd cc
  argument_ends n place [] (a ∷ es) o begin sound e = absurd begin
  argument_ends n place (p ∷ []) [] o begin sound e = (of_type names scope n o p place sound (both_none (fits_type o p place) _ e).0, tt)
  argument_ends n place (p ∷ q ∷ ps) [] o begin sound e =
      absurd (let f : false ≡ true = is_so false _ (both_none (fits_type o p place) (unless_so false (misfit_at place)) e).1 in let g : ⊥ = cc in g)
  argument_ends n place (p ∷ ps) (a ∷ es) o (one, begin) sound e = (one, argument_ends n place ps es o begin sound e)

  -- these are the arguments, at these levels or more
  abbrev pub Arguments : ℕ → List ValueType → List ExprTree → Type 0
  Arguments n params es = (m : ℕ) → Within n m → arguments_fit names scope m params (exprs es) ≡ true

  exactly_fit : (n : ℕ) (ps : List ValueType) (es : List ExprTree) → Exactly n ps es → Arguments n ps es
  exactly_fit n [] [] exactly m w = refl
  exactly_fit n [] (e ∷ es) exactly m w = absurd exactly
  exactly_fit n (p ∷ ps) [] exactly m w = absurd exactly
  exactly_fit n (p ∷ ps) (e ∷ es) (one, exactly) m w = both (both one.0 (one.1 m w)) (exactly_fit n ps es exactly m w)

  -- The values of `roa_check`.

  abbrev ValuesBegin : ℕ → List ExprTree → Type 0
  ValuesBegin n [] = Unit {0}
  ValuesBegin n (a ∷ []) = Of names scope Prefix n a
  ValuesBegin n (a ∷ b ∷ es) = Of names scope Prefix n a × Of names scope Int n b

  -- a prefix and a number
  abbrev pub Values : ℕ → List ExprTree → Type 0
  Values n (a ∷ b ∷ es) = Of names scope Prefix n a × Of names scope Int n b
  Values n _ = ⊥

  value_goes : (n place : ℕ) (es : List ExprTree) (o : Operand) → ValuesBegin n es → Sound names scope (Whole names scope n) o → fits_type o (if length es == 0 then Prefix else Int) place ≡ None → ValuesBegin n (es ++ o.tree ∷ [])
  value_goes n place [] o begin sound e = of_type names scope n o Prefix place sound e
  value_goes n place (a ∷ []) o begin sound e = (begin, of_type names scope n o Int place sound e)
  value_goes n place (a ∷ b ∷ es) o begin sound e = begin

  value_ends : (n place : ℕ) (es : List ExprTree) (o : Operand) → ValuesBegin n es → Sound names scope (Whole names scope n) o → may_end roa_values (length es) ≡ true → fits_type o (if length es == 0 then Prefix else Int) place ≡ None
      → Values n (es ++ o.tree ∷ [])
  value_ends n place [] o begin sound end e = absurd (let f : false ≡ true = end in let g : ⊥ = cc in g)
  value_ends n place (a ∷ []) o begin sound end e = (begin, of_type names scope n o Int place sound e)
  value_ends n place (a ∷ b ∷ es) o begin sound end e = begin

  -- Parts of each shape.

  module _ (n : ℕ) (expression : Wanted → Grammar Operand) (k : (wanted : Wanted) → Says (expression wanted) (Sound names scope (Whole names scope n))) where
    -- how parts that go on and a last one make what is wanted
    abbrev Steps : Shape → ℕ → (Parts → Type 0) → (Parts → Type 0) → Type 0
    Steps shape place I D =
        (before : Parts) (o : Operand) (left : ℕ) (is_last : Bool) → I before → Sound names scope (Whole names scope n) o → Ends shape (length before.trees) is_last → fits_next shape before is_last o left place ≡ None
        → Next I D (ends_with is_last (with_part before o))

    says_parts : (shape : Shape) (place : ℕ) (I D : Parts → Type 0) → ((left : ℕ) → I (no_parts left)) → Steps shape place I D → Says (some_parts expression shape place) D
    says_parts shape place I D none steps =
        says_here (λ left.
        says_rounds I (none left) (λ before all.
        says_here (λ here.
        says_sequence (k (wanted_part shape (length before.trees) place)) (λ o sound.
        says_sequence (says_takes (end_says shape (length before.trees))) (λ is_last ends. says_checks (λ fit. says_gives (steps before o here is_last all sound ends fit)))))))

    plain_steps : (place : ℕ) → Steps plain place (λ parts. AreAll (Of names scope Int n) parts.trees) (λ parts. Settled names scope (Alone names scope (suc n)) (plain_operand parts))
    plain_steps place before o left true all sound ends fit = plain_ends n before.first left place before.trees o all sound fit
    plain_steps place before o left false all sound ends fit = all_more (Of names scope Int n) before.trees o.tree all (plain_goes n before.first left place before.trees o sound fit)

    pub says_plain : (at : Place) (place : ℕ) → Says (enclosed at expression plain place) (λ parts. Settled names scope (Alone names scope (suc n)) (plain_operand parts))
    says_plain at place = says_parts plain place _ _ (λ left. tt) (plain_steps place)

    argument_steps : (params : List ValueType) (place : ℕ) → Steps (arguments params) place (λ parts. Begin n params parts.trees) (λ parts. Arguments n params parts.trees)
    argument_steps params place before o left true all sound ends fit = exactly_fit n params (before.trees ++ o.tree ∷ []) (argument_ends n place params before.trees o all sound fit)
    argument_steps params place before o left false all sound ends fit = argument_goes n place params before.trees o all sound fit

    pub says_arguments : (at : Place) (params : List ValueType) (place : ℕ) → Says (enclosed at expression (arguments params) place) (λ parts. Arguments n params parts.trees)
    says_arguments at [] place =
        says_here (λ left.
        says_choice (says_ended mark.Close (λ m w. refl)) (says_then (says_front at) (λ x. says_checks (λ fault. absurd (let g : ⊥ = cc in g)))))
      where
        says_front : (at : Place) → Says (front at) Any
        says_front at = says_choice (says_token _) (says_here (λ left. says_then says_name (λ name. says_checks (λ fault. says_gives tt))))
    says_arguments at (p ∷ ps) place =
        says_choice (says_then (says_mark mark.Close) (λ x. says_checks (λ fault. absurd (let g : ⊥ = cc in g))))
        (says_parts (arguments (p ∷ ps)) place _ _ (λ left. tt) (argument_steps (p ∷ ps) place))

    value_steps : (place : ℕ) → Steps roa_values place (λ parts. ValuesBegin n parts.trees) (λ parts. Values n parts.trees)
    value_steps place before o left true all sound ends fit = value_ends n place before.trees o all sound (ends refl) fit
    value_steps place before o left false all sound ends fit = value_goes n place before.trees o all sound fit

    pub says_values : (at : Place) (place : ℕ) → Says (enclosed at expression roa_values place) (λ parts. Values n parts.trees)
    says_values at place = says_parts roa_values place _ _ (λ left. tt) (value_steps place)
