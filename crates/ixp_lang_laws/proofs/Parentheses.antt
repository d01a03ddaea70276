-- What is spelt in parentheses, one expression, a tuple or the arguments of a call, is spelt so by its canonical tokens.
use Rattle.std.proofs.Common.{◌≡◌, ℕ, zero, suc, ◌⊎◌, inl, inr, Bool, true, false, ◌&&◌, ◌==◌, List, [], ◌∷◌, ◌++◌, length, Option, Some, None, refl, sym, ap, ◌∙◌, subst, if◌then◌else◌, append_assoc, arith}
use Rattle.std.proofs.lemmas.Bool.Decides.{nat_tests}
use Rattle.std.proofs.lemmas.List.{length_push}
use Rattle.std.specs.Option.{option_or}
use Rattle.ixp_lang_tokens.specs.declared.token.Kind.{Kind}
use Rattle.ixp_lang_tokens.specs.declared.token.Kind.TheVariants.{Mark as Marked}
use Rattle.ixp_lang_tokens.specs.declared.token.Mark.TheVariants as mark
use Rattle.ixp_lang_tokens.specs.Grammars.{Grammar, onward, done, Rounds, Took}
use Rattle.ixp_lang_tokens.specs.Pieces.{is_mark, is_next}
use Rattle.ixp_lang.specs.Trees.{ExprTree, exprs}
use Rattle.ixp_lang_exprs.specs.declared.types.ValueType.{ValueType}
use Rattle.ixp_lang_exprs.specs.declared.types.ValueType.TheVariants.{Int, Prefix}
use Rattle.ixp_lang_exprs.specs.declared.context.Scope.{Scope}
use Rattle.ixp_lang_exprs.specs.declared.wanted.Wanted.{Wanted}
use Rattle.ixp_lang_exprs.specs.Types.{same_type}
use Rattle.ixp_lang_exprs.specs.Names.{Names}
use Rattle.ixp_lang_exprs.specs.Sets.{unless_so}
use Rattle.ixp_lang_exprs.specs.Operands.{Operand, misfit_at, fits, anything, one_type, literal_number}
use Rattle.ixp_lang_exprs.specs.Expressions.{Place, Shape, plain, arguments, roa_values, may_go_on, may_end, part_end_in, fits_argument, Parts, argument_wanted, wanted_part, with_part, too_great_if, fits_pair, fits_plain, fits_next, ends_with, part_form, comparison_of, unary_form, expression_form}
use Rattle.ixp_print.specs.Texts.{is_chain, is_compound}
use Rattle.ixp_lang_laws.specs.Canonical.{Before, expr_tokens, exprs_tokens}
use Rattle.ixp_lang_laws.proofs.Basics.{Within, sound, took_token, both_none, none_both, is_so, so_again, none_settled, none_unfit, fits_again, Wants, Begins}

-- no chain goes on with these tokens
abbrev pub Unjoined : List Kind → Type 0
Unjoined rest = (is_next (is_mark mark.And) rest ≡ false) × (is_next (is_mark mark.Or) rest ≡ false)

-- The parts fit at whatever place.

argument_again : (params : List ValueType) (i : ℕ) (is_last : Bool) (part : Operand) (place elsewhere : ℕ) (b : Bool) → fits_argument params i is_last part place ≡ None
    → (part.misfit ≡ None) × (fits_argument params i is_last (sound part.tree part.ty b) elsewhere ≡ None)
argument_again [] i is_last part place elsewhere b e = absurd cc
argument_again (wanted ∷ []) zero is_last part place elsewhere b e =
    let h : (fits part wanted place ≡ None) × (unless_so is_last (misfit_at place) ≡ None) = both_none (fits part wanted place) _ e in
    let f : (part.misfit ≡ None) × (same_type part.ty wanted ≡ true) = none_unfit part wanted place h.0 in
    (f.0, none_both (fits (sound part.tree part.ty b) wanted elsewhere) _ (fits_again part.tree part.ty wanted b elsewhere f.1) (so_again is_last _ (is_so is_last _ h.1)))
argument_again (wanted ∷ other ∷ others) zero true part place elsewhere b e =
    let h : (fits part wanted place ≡ None) × (unless_so false (misfit_at place) ≡ None) = both_none (fits part wanted place) _ e in
    absurd (let f : false ≡ true = is_so false _ h.1 in let g : ⊥ = cc in g)
argument_again (wanted ∷ other ∷ others) zero false part place elsewhere b e =
    let h : (fits part wanted place ≡ None) × (unless_so true (misfit_at place) ≡ None) = both_none (fits part wanted place) _ e in
    let f : (part.misfit ≡ None) × (same_type part.ty wanted ≡ true) = none_unfit part wanted place h.0 in
    (f.0, none_both (fits (sound part.tree part.ty b) wanted elsewhere) _ (fits_again part.tree part.ty wanted b elsewhere f.1) refl)
argument_again (wanted ∷ others) (suc i) is_last part place elsewhere b e = argument_again others i is_last part place elsewhere b e

fit_again : (part : Operand) (wanted : ValueType) (place elsewhere : ℕ) (b : Bool) → fits part wanted place ≡ None
    → (part.misfit ≡ None) × (fits (sound part.tree part.ty b) wanted elsewhere ≡ None)
fit_again part wanted place elsewhere b e =
    let f : (part.misfit ≡ None) × (same_type part.ty wanted ≡ true) = none_unfit part wanted place e in
    (f.0, fits_again part.tree part.ty wanted b elsewhere f.1)

small_again : (n : Option ℕ) (left other : ℕ) → too_great_if n left ≡ None → too_great_if n other ≡ None
small_again None left other e = refl
small_again (Some n) left other e = so_again _ _ (is_so _ _ e)

plain_again : (trees : List ExprTree) (first other_first : ℕ) (is_last : Bool) (part : Operand) (left other place elsewhere : ℕ) (b : Bool) → fits_plain trees first is_last part left place ≡ None
    → (part.misfit ≡ None) × (fits_plain trees other_first is_last (sound part.tree part.ty b) other elsewhere ≡ None)
plain_again [] first other_first true part left other place elsewhere b e = (none_settled part.misfit e, refl)
plain_again [] first other_first false part left other place elsewhere b e = fit_again part Int place elsewhere b e
plain_again (a ∷ []) first other_first true part left other place elsewhere b e =
    let h : (fits_pair a first ≡ None) × (option_or (fits_pair part.tree left) (fits part Int place) ≡ None) = both_none (fits_pair a first) _ e in
    let k : (fits_pair part.tree left ≡ None) × (fits part Int place ≡ None) = both_none (fits_pair part.tree left) _ h.1 in
    let f : (part.misfit ≡ None) × (fits (sound part.tree part.ty b) Int elsewhere ≡ None) = fit_again part Int place elsewhere b k.1 in
    (f.0, none_both (fits_pair a other_first) _ (small_again (literal_number a) first other_first h.0) (none_both (fits_pair part.tree other) _ (small_again (literal_number part.tree) left other k.0) f.1))
plain_again (a ∷ []) first other_first false part left other place elsewhere b e = fit_again part Int place elsewhere b e
plain_again (a ∷ c ∷ others) first other_first is_last part left other place elsewhere b e = fit_again part Int place elsewhere b e

-- a part that fits is of a type that is wanted of it, wherever it is told

argument_fits : (params : List ValueType) (i : ℕ) (is_last : Bool) (part : Operand) (place elsewhere : ℕ) → fits_argument params i is_last part place ≡ None → Wants (argument_wanted params i elsewhere) part.ty
argument_fits [] i is_last part place elsewhere e = absurd cc
argument_fits (p ∷ []) zero is_last part place elsewhere e = (none_unfit part p place (both_none (fits part p place) _ e).0).1
argument_fits (p ∷ q ∷ ps) zero true part place elsewhere e = (none_unfit part p place (both_none (fits part p place) _ e).0).1
argument_fits (p ∷ q ∷ ps) zero false part place elsewhere e = (none_unfit part p place (both_none (fits part p place) _ e).0).1
argument_fits (p ∷ []) (suc i) is_last part place elsewhere e = argument_fits [] i is_last part place elsewhere e
argument_fits (p ∷ q ∷ ps) (suc i) is_last part place elsewhere e = argument_fits (q ∷ ps) i is_last part place elsewhere e

later : (n : ℕ) → (suc n == 0) ≡ false
later n = grind (arith, nat_tests)

plain_wanted : (trees : List ExprTree) (first : ℕ) (is_last : Bool) (part : Operand) (left place elsewhere : ℕ) → fits_plain trees first is_last part left place ≡ None → Wants (wanted_part plain (length trees) elsewhere) part.ty
plain_wanted [] first is_last part left place elsewhere e = refl
plain_wanted (a ∷ others) first is_last part left place elsewhere e =
    subst (λ b. Wants (if b then anything else one_type Int elsewhere) part.ty) (sym (later (length others))) (int_of others is_last e)
  where
    int_of : (others : List ExprTree) (is_last : Bool) → fits_plain (a ∷ others) first is_last part left place ≡ None → same_type part.ty Int ≡ true
    int_of [] true e = (none_unfit part Int place (both_none (fits_pair part.tree left) _ (both_none (fits_pair a first) _ e).1).1).1
    int_of [] false e = (none_unfit part Int place e).1
    int_of (b ∷ others) is_last e = (none_unfit part Int place e).1

pub part_wanted : (shape : Shape) (before : Parts) (is_last : Bool) (part : Operand) (left place elsewhere : ℕ) → fits_next shape before is_last part left place ≡ None
    → Wants (wanted_part shape (length before.trees) elsewhere) part.ty
part_wanted plain before is_last part left place elsewhere e = plain_wanted before.trees before.first is_last part left place elsewhere e
part_wanted (arguments params) before is_last part left place elsewhere e = argument_fits params (length before.trees) is_last part place elsewhere e
part_wanted roa_values before is_last part left place elsewhere e = (none_unfit part (if length before.trees == 0 then Prefix else Int) place e).1

-- parts with the same trees
abbrev pub same_parts : Parts → ℕ → ValueType → Parts
same_parts parts first ty = record { trees = parts.trees; first = first; ty = ty }

next_again : (shape : Shape) (before : Parts) (first : ℕ) (ty : ValueType) (is_last : Bool) (part : Operand) (left other place elsewhere : ℕ) (b : Bool) → fits_next shape before is_last part left place ≡ None
    → (part.misfit ≡ None) × (fits_next shape (same_parts before first ty) is_last (sound part.tree part.ty b) other elsewhere ≡ None)
next_again plain before first ty is_last part left other place elsewhere b e = plain_again before.trees before.first first is_last part left other place elsewhere b e
next_again (arguments params) before first ty is_last part left other place elsewhere b e = argument_again params (length before.trees) is_last part place elsewhere b e
next_again roa_values before first ty is_last part left other place elsewhere b e = fit_again part (if length before.trees == 0 then Prefix else Int) place elsewhere b e

-- What ends a part.

ends_chosen : (on comma end close : Bool) (last : Bool) → (if on && comma then Some false else (if end && close then Some true else None)) ≡ Some last
    → ((last ≡ false) × (on ≡ true)) ⊎ ((last ≡ true) × (end ≡ true))
ends_chosen true true end close true e = absurd cc
ends_chosen true true end close false e = inl (refl, refl)
ends_chosen true false true true true e = inr (refl, refl)
ends_chosen true false true true false e = absurd cc
ends_chosen true false true false last e = absurd cc
ends_chosen true false false close last e = absurd cc
ends_chosen false comma true true true e = inr (refl, refl)
ends_chosen false comma true true false e = absurd cc
ends_chosen false comma true false last e = absurd cc
ends_chosen false comma false close last e = absurd cc

pub comma_goes_on : (shape : Shape) (i : ℕ) (k : Kind) → part_end_in shape i k ≡ Some false → may_go_on shape i ≡ true
comma_goes_on shape i k e = by_case (ends_chosen (may_go_on shape i) (is_mark mark.Comma k) (may_end shape i) (is_mark mark.Close k) false e)
  where
    by_case : ((false ≡ false) × (may_go_on shape i ≡ true)) ⊎ ((false ≡ true) × (may_end shape i ≡ true)) → may_go_on shape i ≡ true
    by_case (inl (same, on)) = on
    by_case (inr (same, end)) = absurd cc

pub close_ends : (shape : Shape) (i : ℕ) (k : Kind) → part_end_in shape i k ≡ Some true → may_end shape i ≡ true
close_ends shape i k e = by_case (ends_chosen (may_go_on shape i) (is_mark mark.Comma k) (may_end shape i) (is_mark mark.Close k) true e)
  where
    by_case : ((true ≡ false) × (may_go_on shape i ≡ true)) ⊎ ((true ≡ true) × (may_end shape i ≡ true)) → may_end shape i ≡ true
    by_case (inl (same, on)) = absurd cc
    by_case (inr (same, end)) = end

pub comma_again : (shape : Shape) (i : ℕ) → may_go_on shape i ≡ true → part_end_in shape i (Marked mark.Comma) ≡ Some false
comma_again shape i on = ap (λ b. if b && true then Some false else (if may_end shape i && false then Some true else None)) on

chosen_end : (on end : Bool) → end ≡ true → ◌≡◌ {A = Option Bool} (if on && false then Some false else (if end && true then Some true else None)) (Some true)
chosen_end true true e = refl
chosen_end false true e = refl
chosen_end on false e = absurd cc

pub close_again : (shape : Shape) (i : ℕ) → may_end shape i ≡ true → part_end_in shape i (Marked mark.Close) ≡ Some true
close_again shape i end = chosen_end (may_go_on shape i) (may_end shape i) end

-- these may be the parts from this index on
abbrev pub Going : Shape → ℕ → List ExprTree → Type 0
Going shape i [] = ⊥
Going shape i (e ∷ []) = may_end shape i ≡ true
Going shape i (e ∷ f ∷ es) = (may_go_on shape i ≡ true) × Going shape (suc i) (f ∷ es)

-- What names stand for, and what an expression is a part of.
module _ (names : Names) (scope : Scope) where
  -- where an expression stands in the statement at whose first token so many are left
  abbrev pub at : ℕ → Place
  at s = record { names = names; scope = scope; statement = s }

  -- a grammar has these tokens, before whatever follows, and they say this tree of this type, where what begins with
  -- an operand of the type may be wanted
  abbrev pub Reads : (ℕ → Wanted → Grammar Operand) → ExprTree → ValueType → Before → Type 0
  Reads g e t text = (b : Bool) × ((s : ℕ) (wanted : Wanted) → Begins wanted t → (rest : List Kind) → Took (g s wanted) (sound e t b) (text rest) rest)

  -- the same where the tree's type is wanted
  abbrev pub Meets : (ℕ → Wanted → Grammar Operand) → ExprTree → ValueType → Before → Type 0
  Meets g e t text = (b : Bool) × ((s : ℕ) (wanted : Wanted) → Wants wanted t → (rest : List Kind) → Took (g s wanted) (sound e t b) (text rest) rest)

  -- The canonical tokens of the tree, with so many levels: as an expression, as an operand of a chain where it is none itself, and
  -- alone where it needs no parentheses.
  pub record Fitting (m : ℕ) (e : ExprTree) (t : ValueType) : Type 0 where
    pub whole : (b : Bool) × ((s : ℕ) (wanted : Wanted) → Wants wanted t → (rest : List Kind) → Unjoined rest → Took (expression_form (at s) m wanted) (sound e t b) (expr_tokens e rest) rest)
    pub part : is_chain e ≡ false → Meets (λ s. comparison_of (unary_form (at s) m)) e t (expr_tokens e)
    pub alone : is_compound e ≡ false → Reads (λ s. unary_form (at s) m) e t (expr_tokens e)

  -- the same with these levels or more
  abbrev pub Expressed : ℕ → ExprTree → ValueType → Type 0
  Expressed n e t = (m : ℕ) → Within n m → Fitting m e t

  -- each expression of so many levels is spelt by its canonical tokens
  abbrev pub Again : ℕ → Type 0
  Again n = (s : ℕ) (wanted : Wanted) (o : Operand) (ts rest : List Kind) → Took (expression_form (at s) n wanted) o ts rest → o.misfit ≡ None → Expressed n o.tree o.ty

  abbrev pub Lone : ℕ → List ExprTree → ValueType → Type 0
  Lone n [] t = Unit {0}
  Lone n (e ∷ []) t = Expressed n e t
  Lone n (e ∷ f ∷ es) t = Unit {0}

  abbrev PartRounds : ℕ → Shape → ℕ → ℕ → ℕ → Parts → Parts → List Kind → List Kind → Type 0
  PartRounds n shape s place = Rounds (λ t. Took (part_form (expression_form (at s) n) shape place t))

  -- the parts behind those before, which are spelt by their canonical tokens
  abbrev pub Renewed : ℕ → Shape → Parts → Parts → Type 0
  Renewed n shape before after =
      (new : List ExprTree) × (after.trees ≡ before.trees ++ new) × Going shape (length before.trees) new × Lone n new after.ty
      × ((m : ℕ) → Within n m → (s place first : ℕ) (ty : ValueType) (rest : List Kind) →
      (j : ℕ) × PartRounds m shape s place j (same_parts before first ty) (same_parts after first after.ty) (exprs_tokens (exprs new) (Marked mark.Close ∷ rest)) rest)

  -- one part and its end
  last_again : (n : ℕ) → Again n → (shape : Shape) (s place : ℕ) (before after : Parts) (ts rest : List Kind) → Took (part_form (expression_form (at s) n) shape place before) (done after) ts rest → Renewed n shape before after
  last_again n again shape s place before after ts rest (operand, mid, took, (is_last, others, end, (fit, (is, same)))) = by_last is_last (took_token _ is_last mid others end) fit is
    where
      at_end : (k : Kind) → part_end_in shape (length before.trees) k ≡ Some true → fits_next shape before true operand (length ts) place ≡ None → Renewed n shape before (with_part before operand)
      at_end k end fit =
          let fine : operand.misfit ≡ None = (next_again shape before 0 Int true operand (length ts) 0 place 0 true fit).0 in
          let spelt : Expressed n operand.tree operand.ty = again s (wanted_part shape (length before.trees) place) operand ts mid took fine in
          let ends : may_end shape (length before.trees) ≡ true = close_ends shape (length before.trees) k end in (
            operand.tree ∷ [],
            refl,
            ends,
            spelt,
            λ m w s' place' first ty rest'.
                (let whole = (spelt m w).whole in (
                  0,
                  (
                    sound operand.tree operand.ty whole.0,
                    Marked mark.Close ∷ rest',
                    whole.1 s' (wanted_part shape (length before.trees) place') (part_wanted shape before true operand (length ts) place place' fit) (Marked mark.Close ∷ rest') (refl, refl),
                    (
                      true,
                      rest',
                      (close_again shape (length before.trees) ends, refl),
                      ((next_again shape before first ty true operand (length ts) (length (expr_tokens operand.tree (Marked mark.Close ∷ rest'))) place place' whole.0 fit).1, (refl, refl)),
                    ),
                  ),
                )),
          )

      by_last : (is_last : Bool) → (k : Kind) × (part_end_in shape (length before.trees) k ≡ Some is_last) → fits_next shape before is_last operand (length ts) place ≡ None
          → done after ≡ ends_with is_last (with_part before operand) → Renewed n shape before after
      by_last true (k, end) fit is = subst (λ x. Renewed n shape before x) (let h : with_part before operand ≡ after = cc in h) (at_end k end fit)
      by_last false (k, end) fit is = absurd cc

  -- one part, and those behind it
  more_again : (n : ℕ) → Again n → (shape : Shape) (s place : ℕ) (before t after : Parts) (ts rest : List Kind) → Took (part_form (expression_form (at s) n) shape place before) (onward t) ts rest → Renewed n shape t after
      → Renewed n shape before after
  more_again n again shape s place before t after ts rest (operand, mid, took, (is_last, others, end, (fit, (is, same)))) behind = by_last is_last (took_token _ is_last mid others end) fit is
    where
      at_comma : (k : Kind) → part_end_in shape (length before.trees) k ≡ Some false → fits_next shape before false operand (length ts) place ≡ None → Renewed n shape (with_part before operand) after
          → Renewed n shape before after
      at_comma k end fit ([], all, going, lone, spells) = absurd going
      at_comma k end fit (e ∷ es, all, going, lone, spells) =
          let fine : operand.misfit ≡ None = (next_again shape before 0 Int false operand (length ts) 0 place 0 true fit).0 in
          let spelt : Expressed n operand.tree operand.ty = again s (wanted_part shape (length before.trees) place) operand ts mid took fine in
          let on : may_go_on shape (length before.trees) ≡ true = comma_goes_on shape (length before.trees) k end in (
            operand.tree ∷ e ∷ es,
            all ∙ append_assoc before.trees (operand.tree ∷ []) (e ∷ es),
            (on, subst (λ i. Going shape i (e ∷ es)) (let n : length (before.trees ++ operand.tree ∷ []) ≡ suc (length before.trees) = omega (arith, length_push before.trees operand.tree) in n) going),
            tt,
            λ m w s' place' first ty rest'.
                (let whole = (spelt m w).whole in
                let more = spells m w s' place' first operand.ty rest' in (
                  suc (more.0),
                  (
                    same_parts (with_part before operand) first operand.ty,
                    exprs_tokens (exprs (e ∷ es)) (Marked mark.Close ∷ rest'),
                    (
                      sound operand.tree operand.ty whole.0,
                      Marked mark.Comma ∷ exprs_tokens (exprs (e ∷ es)) (Marked mark.Close ∷ rest'),
                      whole.1 s' (wanted_part shape (length before.trees) place') (part_wanted shape before false operand (length ts) place place' fit) _ (refl, refl),
                      (
                        false,
                        _,
                        (comma_again shape (length before.trees) on, refl),
                        ((next_again shape before first ty false operand (length ts) (length (exprs_tokens (exprs (operand.tree ∷ e ∷ es)) (Marked mark.Close ∷ rest'))) place place' whole.0 fit).1, (refl, refl)),
                      ),
                    ),
                    more.1,
                  ),
                )),
          )

      by_last : (is_last : Bool) → (k : Kind) × (part_end_in shape (length before.trees) k ≡ Some is_last) → fits_next shape before is_last operand (length ts) place ≡ None
          → onward t ≡ ends_with is_last (with_part before operand) → Renewed n shape before after
      by_last true (k, end) fit is = absurd cc
      by_last false (k, end) fit is = at_comma k end fit (subst (λ x. Renewed n shape x after) (let h : t ≡ with_part before operand = cc in h) behind)

  -- all parts
  pub parts_again : (n : ℕ) → Again n → (shape : Shape) (s place k : ℕ) (before after : Parts) (ts rest : List Kind) → PartRounds n shape s place k before after ts rest → Renewed n shape before after
  parts_again n again shape s place zero before after ts rest took = last_again n again shape s place before after ts rest took
  parts_again n again shape s place (suc k) before after ts rest (t, mid, took, more) =
      more_again n again shape s place before t after ts mid took (parts_again n again shape s place k t after mid rest more)
