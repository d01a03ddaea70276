-- What stands alone at a level, by its first token.
use Rattle.std.proofs.Common.{◌≡◌, ℕ, zero, suc, Bool, true, false, nat_lt, ◌==◌, ◌<◌, ◌-◌, ◌||◌, List, [], ◌∷◌, length, Option, Some, None, option_map, Result, Ok, Err, refl, sym, ap, ◌∙◌, if◌then◌else◌, is_some, arith, subst}
use Rattle.std.proofs.lemmas.Bool.Decides.{nat_tests}
use Rattle.ixp_lang_tokens.specs.declared.fault.Cause.{Cause}
use Rattle.ixp_lang_tokens.specs.declared.fault.Cause.TheVariants.{Deep}
use Rattle.ixp_lang_tokens.specs.declared.token.Kind.{Kind}
use Rattle.ixp_lang_tokens.specs.declared.token.Kind.TheVariants as kind
use Rattle.ixp_lang_tokens.specs.declared.token.Mark.{Mark}
use Rattle.ixp_lang_tokens.specs.declared.token.Mark.TheVariants as mark
use Rattle.ixp_lang_tokens.specs.Grammars.{Grammar, takes, sequence, choice, checks, gives}
use Rattle.ixp_lang_tokens.specs.Reading.{Read, read, ◌>>=◌, taken, stop}
use Rattle.ixp_lang_tokens.specs.Pieces.{the_mark, is_mark, behind, if_so}
use Rattle.ixp_lang_exprs.specs.declared.env.Signature.{Signature}
use Rattle.ixp_lang_exprs.specs.declared.group.Opening.TheVariants as opening
use Rattle.ixp_lang_exprs.specs.Lists.{never}
use Rattle.ixp_lang_exprs.specs.declared.wanted.Wanted.{Wanted}
use Rattle.ixp_lang_exprs.specs.Operands.{Operand, anything, fits_negation, negated}
use Rattle.ixp_lang_exprs.specs.Expressions.{Place, plain, enclosed, expression_of, expression_form, Deeper, nothing, deeper, is_left, operand_form, unary_form, name_form, call_form, called}
use Rattle.ixp_lang_exprs.specs.Groups.{below, below_if, plain_or, check_or, finishing, call_or, atom_form, call_in}

is_not : (d : ℕ) → (suc d == 0) ≡ false
is_not d = grind (arith, nat_tests)

not_zero : (d : ℕ) → (d ≡ 0 → ⊥) → (d == 0) ≡ false
not_zero zero f = absurd (f refl)
not_zero (suc d) f = is_not d

less : (d : ℕ) → suc d - 1 ≡ d
less d = omega arith

flat : (at : Place) (d : ℕ) → below at (suc d) ≡ deeper (unary_form at d)
flat at d = subst (λ b. below_if b (unary_form at (suc d - 1)) ≡ deeper (unary_form at d)) (sym (is_not d)) (ap (λ x. deeper (unary_form at x)) (less d))

pub left_below : (at : Place) (d : ℕ) → is_left (below at d) ≡ nat_lt 0 d
left_below at zero = grind (arith, nat_tests)
left_below at (suc d) = ap is_left (flat at d) ∙ grind (arith, nat_tests)

abbrev pub negation_of : Operand × List Kind → ℕ → Read Operand
negation_of a place = read (checks (fits_negation a.0 place) (gives (negated a.0))) a.1

some_is : {A : Type 0} (x y : A) → ◌≡◌ {A = Option A} (Some x) (Some y) → x ≡ y
some_is x y e = cc

deep_by : (b : Bool) (ts rest : List Kind) (n : ℕ) (q r : Read Operand) → (if b then Some ts else None) ≡ Some rest
    → (if b || false then (if b then Err (Deep, n) else q) else r) ≡ Err (Deep, n)
deep_by true ts rest n q r e = refl
deep_by false ts rest n q r e = absurd cc

pub not_last : (at : Place) (wanted : Wanted) (ts rest : List Kind) → behind (is_mark mark.Not) ts ≡ Some rest → read (unary_form at zero wanted) ts ≡ Err (Deep, length ts)
unfolding operand_form
not_last at wanted [] rest e = absurd cc
not_last at wanted (k ∷ ts) rest e = deep_by (is_mark mark.Not k) ts rest (suc (length ts)) _ _ e

deeper_by : (b : Bool) (ts rest : List Kind) (f : List Kind → Read Operand) (r : Read Operand) → (if b then Some ts else None) ≡ Some rest
    → (if is_some (if_so b) then (taken (if_so b) ts >>= λ a. f a.1) else r) ≡ f rest
deeper_by true ts rest f r e = ap f (some_is ts rest e)
deeper_by false ts rest f r e = absurd cc

pub not_deeper : (at : Place) (d : ℕ) (wanted : Wanted) (ts rest : List Kind) → behind (is_mark mark.Not) ts ≡ Some rest
    → read (unary_form at (suc d) wanted) ts ≡ (read (unary_form at d anything) rest >>= λ a. negation_of a (length ts))
unfolding operand_form
not_deeper at d wanted [] rest e = absurd cc
not_deeper at d wanted (k ∷ ts) rest e = deeper_by (is_mark mark.Not k) ts rest (λ r. read (unary_form at d anything) r >>= λ a. negation_of a (suc (length ts))) _ e

plain_deeper : (at : Place) (u : Wanted → Grammar Operand) (wanted : Wanted) (ts rest : List Kind) → behind (is_mark mark.Open) ts ≡ Some rest
    → read (plain_or at wanted (deeper u)) ts ≡ finishing opening.Plain (read (enclosed at (expression_of u) plain at.statement) rest)
plain_deeper at u wanted [] rest e = absurd cc
plain_deeper at u wanted (k ∷ ts) rest e =
    deeper_by (is_mark mark.Open k) ts rest (λ r. finishing opening.Plain (read (enclosed at (expression_of u) plain at.statement) r)) (read (check_or at wanted (deeper u)) (k ∷ ts)) e

-- a parenthesis where a level is left
pub plain_more : (at : Place) (d : ℕ) (wanted : Wanted) (ts rest : List Kind) → (d ≡ 0 → ⊥) → behind (is_mark mark.Open) ts ≡ Some rest
    → read (plain_or at wanted (below at d)) ts ≡ finishing opening.Plain (read (enclosed at (expression_form at (d - 1)) plain at.statement) rest)
plain_more at d wanted ts rest more e =
    subst (λ b. read (plain_or at wanted (below_if b (unary_form at (d - 1)))) ts ≡ finishing opening.Plain (read (enclosed at (expression_form at (d - 1)) plain at.statement) rest)) (sym (not_zero d more))
    (plain_deeper at (unary_form at (d - 1)) wanted ts rest e)

other_by : (b : Bool) (ts : List Kind) (q r : Read Operand) → (if b then Some ts else None) ≡ None → (if is_some (if_so b) then q else r) ≡ r
other_by true ts q r e = absurd cc
other_by false ts q r e = refl

last_by : (b : Bool) (ts : List Kind) (q r : Read Operand) → (if b then Some ts else None) ≡ None → (if b || false then q else r) ≡ r
last_by true ts q r e = absurd cc
last_by false ts q r e = refl

plain_none : (at : Place) (inner : Deeper) (wanted : Wanted) (ts : List Kind) → behind (is_mark mark.Open) ts ≡ None → read (plain_or at wanted inner) ts ≡ read (check_or at wanted inner) ts
plain_none at inner wanted [] e = no_plain inner
  where
    no_plain : (i : Deeper) → read (plain_or at wanted i) [] ≡ read (check_or at wanted i) []
    no_plain nothing = refl
    no_plain (deeper u) = refl
plain_none at nothing wanted (k ∷ ts) e = last_by (is_mark mark.Open k) ts _ _ e
plain_none at (deeper u) wanted (k ∷ ts) e = other_by (is_mark mark.Open k) ts _ _ e

-- no parenthesis
pub not_plain : (at : Place) (d : ℕ) (wanted : Wanted) (ts : List Kind) → behind (is_mark mark.Open) ts ≡ None → read (plain_or at wanted (below at d)) ts ≡ read (check_or at wanted (below at d)) ts
not_plain at d wanted ts e = plain_none at (below at d) wanted ts e

-- a negation where a level is left
pub not_more : (at : Place) (d : ℕ) (wanted : Wanted) (ts rest : List Kind) → (d ≡ 0 → ⊥) → behind (is_mark mark.Not) ts ≡ Some rest
    → read (unary_form at d wanted) ts ≡ (read (unary_form at (d - 1) anything) rest >>= λ a. negation_of a (length ts))
not_more at zero wanted ts rest more e = absurd (more refl)
not_more at (suc d) wanted ts rest more e =
    subst (λ x. read (unary_form at (suc d) wanted) ts ≡ (read (unary_form at x anything) rest >>= λ a. negation_of a (length ts))) (sym (less d)) (not_deeper at d wanted ts rest e)

deeper_none : (at : Place) (d : ℕ) (wanted : Wanted) (ts : List Kind) → behind (is_mark mark.Not) ts ≡ None → read (unary_form at (suc d) wanted) ts ≡ read (plain_or at wanted (deeper (unary_form at d))) ts
unfolding operand_form
deeper_none at d wanted [] e = refl
deeper_none at d wanted (k ∷ ts) e = other_by (is_mark mark.Not k) ts _ _ e

pub not_none : (at : Place) (d : ℕ) (wanted : Wanted) (ts : List Kind) → behind (is_mark mark.Not) ts ≡ None → read (unary_form at d wanted) ts ≡ read (plain_or at wanted (below at d)) ts
unfolding operand_form
not_none at zero wanted [] e = refl
not_none at zero wanted (k ∷ ts) e = last_by (is_mark mark.Not k) ts _ _ e
not_none at (suc d) wanted ts e = subst (λ b. read (unary_form at (suc d) wanted) ts ≡ read (plain_or at wanted b) ts) (sym (flat at d)) (deeper_none at d wanted ts e)

known_by : (at : Place) (inner : Deeper) (n : List ℕ) (p : ℕ) (ts : List Kind) (o : Option Signature) (name : List ℕ) (s : Signature) (rest : List Kind)
    → option_map {U = List ℕ × Signature × List Kind} (λ t. (n, t, ts)) o ≡ Some (name, s, rest) → read (name_form at inner n p o) ts ≡ read (call_form at inner name p s) rest
known_by at inner n p ts (Some t) name s rest e =
    ap (λ (x : List ℕ × Signature × List Kind). read (call_form at inner x.0 p x.1) x.2) (some_is (n, t, ts) (name, s, rest) e)
known_by at inner n p ts None name s rest e = absurd cc

-- a call is next
pub call_known : (at : Place) (wanted : Wanted) (inner : Deeper) (ts : List Kind) (name : List ℕ) (s : Signature) (rest : List Kind)
    → call_in at ts ≡ Some (name, s, rest) → read (call_or at wanted inner) ts ≡ read (call_form at inner name (length ts) s) rest
call_known at wanted inner [] name s rest e = absurd cc
call_known at wanted inner (kind.Name n ∷ ts) name s rest e = known_by at inner n (suc (length ts)) ts (called at n) name s rest e
call_known at wanted inner (kind.Word w ∷ ts) name s rest e = absurd cc
call_known at wanted inner (kind.Number n ∷ ts) name s rest e = absurd cc
call_known at wanted inner (kind.Addr a ∷ ts) name s rest e = absurd cc
call_known at wanted inner (kind.Prefix p ∷ ts) name s rest e = absurd cc
call_known at wanted inner (kind.Text t ∷ ts) name s rest e = absurd cc
call_known at wanted inner (kind.Mark m ∷ ts) name s rest e = absurd cc
call_known at wanted inner (kind.BadByte ∷ ts) name s rest e = absurd cc
call_known at wanted inner (kind.BadNumber ∷ ts) name s rest e = absurd cc

unknown_by : (at : Place) (inner : Deeper) (n : List ℕ) (p : ℕ) (ts : List Kind) (o : Option Signature)
    → option_map {U = List ℕ × Signature × List Kind} (λ t. (n, t, ts)) o ≡ None → read (name_form at inner n p o) ts ≡ read (name_form at inner n p None) ts
unknown_by at inner n p ts (Some t) e = absurd cc
unknown_by at inner n p ts None e = refl

-- no call is next
pub call_unknown : (at : Place) (wanted : Wanted) (inner : Deeper) (ts : List Kind) → call_in at ts ≡ None → read (call_or at wanted inner) ts ≡ read (atom_form at wanted (is_left inner)) ts
call_unknown at wanted inner [] e = refl
call_unknown at wanted inner (kind.Name n ∷ ts) e = unknown_by at inner n (suc (length ts)) ts (called at n) e
call_unknown at wanted inner (kind.Word w ∷ ts) e = refl
call_unknown at wanted inner (kind.Number n ∷ ts) e = refl
call_unknown at wanted inner (kind.Addr a ∷ ts) e = refl
call_unknown at wanted inner (kind.Prefix p ∷ ts) e = refl
call_unknown at wanted inner (kind.Text t ∷ ts) e = refl
call_unknown at wanted inner (kind.Mark m ∷ ts) e = refl
call_unknown at wanted inner (kind.BadByte ∷ ts) e = refl
call_unknown at wanted inner (kind.BadNumber ∷ ts) e = refl
