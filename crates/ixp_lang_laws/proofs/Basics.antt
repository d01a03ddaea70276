-- What is known where there is no fault, and that the same holds at other places.
use Rattle.std.proofs.Common.{◌≡◌, ℕ, zero, suc, Bool, true, false, ◌&&◌, ◌||◌, List, [], ◌∷◌, Option, Some, None, option_map, refl, sym, ap, if◌then◌else◌}
use Rattle.std.proofs.lemmas.Bool.{and_from}
use Rattle.std.specs.Option.{option_or}
use Rattle.ixp_lang_tokens.specs.declared.token.Kind.{Kind}
use Rattle.ixp_lang_tokens.specs.declared.fault.Cause.{Cause}
use Rattle.ixp_lang_tokens.specs.Grammars.{takes, Took}
use Rattle.ixp_lang.specs.Trees.{ExprTree, comparison}
use Rattle.ixp_lang.specs.declared.expr.Attr.{Attr}
use Rattle.ixp_lang.specs.declared.expr.Attr.TheVariants as attr
use Rattle.ixp_lang.specs.declared.expr.Op.{Op}
use Rattle.ixp_lang.specs.declared.expr.Op.TheVariants as op
use Rattle.ixp_lang_exprs.specs.declared.types.ValueType.{ValueType}
use Rattle.ixp_lang_exprs.specs.declared.types.ValueType.TheVariants.{Int, Bool as Truth}
use Rattle.ixp_lang_exprs.specs.declared.wanted.Wanted.{Wanted}
use Rattle.ixp_lang_exprs.specs.Types.{same_type, attribute_type, is_comparable, is_sought, is_compared, is_expected, takes_left, takes_right}
use Rattle.ixp_lang_exprs.specs.Lists.{never}
use Rattle.ixp_lang_exprs.specs.Sets.{unless_so, if_missing}
use Rattle.ixp_lang_exprs.specs.Operands.{Operand, misfit_at, settled, fits, fits_left, in_vain, no_truth, refused_now, compared_operand}
use Rattle.ixp_lang_exprs.specs.Expressions.{bare_attribute, has_parts}
pub use Rattle.ixp_lang_laws.proofs.Misfits.{Within, within_same, within_more, both_none, is_so, none_settled, if_none, none_part, none_unfit}

pub within_less : (n m : ℕ) → Within (suc n) m → Within n m
within_less n zero w = absurd w
within_less n (suc m) w = within_more n m w

-- an operand without a misfit
abbrev pub sound : ExprTree → ValueType → Bool → Operand
sound e t b = record { tree = e; ty = t; is_open = b; misfit = None }

pub took_token : {A : Type 0} (c : Kind → Option A) (v : A) (ts rest : List Kind) → Took (takes c) v ts rest → (k : Kind) × (c k ≡ Some v)
took_token c v [] rest took = absurd took
took_token c v (k ∷ ts) rest (is, same) = (k, is)

pub never_took : {A : Type 0} (v : A) (ts rest : List Kind) → Took (never {A = A}) v ts rest → ⊥
never_took v [] rest took = took
never_took v (k ∷ ts) rest (is, same) = absurd cc

pub none_both : {A : Type 0} (x y : Option A) → x ≡ None → y ≡ None → option_or x y ≡ None
none_both None y p q = q
none_both (Some a) y p q = p

pub so_again : (b : Bool) (fault : Cause × ℕ) → b ≡ true → unless_so b fault ≡ None
so_again b fault e = ap (λ c. unless_so c fault) e

pub there : {A : Type 0} (x : Option A) (fault : Cause × ℕ) → if_missing x fault ≡ None → (a : A) × (x ≡ Some a)
there (Some a) fault e = (a, refl)
there None fault e = absurd cc

pub there_again : {A : Type 0} (x : Option A) (a : A) (fault : Cause × ℕ) → x ≡ Some a → if_missing x fault ≡ None
there_again x a fault e = ap (λ y. if_missing y fault) e

pub fits_again : (e : ExprTree) (a t : ValueType) (b : Bool) (p : ℕ) → same_type a t ≡ true → fits (sound e a b) t p ≡ None
fits_again e a t b p same = so_again (same_type a t) _ same

or_left : (a b : Bool) → a ≡ true → (a || b) ≡ true
or_left a b p = ap (λ c. c || b) p

or_right : (a b : Bool) → b ≡ true → (a || b) ≡ true
or_right true b p = refl
or_right false b p = p

pub none_refused : (op : Op) (e f : ExprTree) (t u : ValueType) (b c : Bool) (p : ℕ) → takes_right op t u ≡ true → refused_now op (sound e t b) (sound f u c) p ≡ None
none_refused op e f t u b c p same = so_again (takes_right op t u || (c && takes_right op t Int)) _ (or_left (takes_right op t u) (c && takes_right op t Int) same)

-- Of what is wanted.

-- such a type is wanted
abbrev pub Wants : Wanted → ValueType → Type 0
Wants wanted t = is_expected wanted.expected t ≡ true

pub truth_wanted : (wanted : Wanted) (t : ValueType) → same_type t Truth ≡ true → Wants wanted Truth → Wants wanted t
truth_wanted wanted Truth same wants = wants
truth_wanted wanted _ same wants = absurd cc

-- an operand of such a type is no vain beginning
pub hope_again : (wanted : Wanted) (e : ExprTree) (t : ValueType) (b : Bool) → Wants wanted t → in_vain wanted (sound e t b) ≡ None
hope_again wanted e t b wants = so_again _ _ (or_left (is_expected wanted.expected t) _ wants)

left_compared : (op : Op) (t : ValueType) → takes_left op t ≡ true → is_compared t ≡ true
left_compared op.Eq t e = or_left (is_comparable t) (is_sought t) e
left_compared op.Ne t e = or_left (is_comparable t) (is_sought t) e
left_compared op.Lt Int e = refl
left_compared op.Lt _ e = absurd cc
left_compared op.Le Int e = refl
left_compared op.Le _ e = absurd cc
left_compared op.Gt Int e = refl
left_compared op.Gt _ e = absurd cc
left_compared op.Ge Int e = refl
left_compared op.Ge _ e = absurd cc
left_compared op.In t e = or_right (is_comparable t) (is_sought t) e
left_compared op.NotIn t e = or_right (is_comparable t) (is_sought t) e

-- what begins with an operand of such a type may be wanted: the operand, or what compares it
abbrev pub Begins : Wanted → ValueType → Type 0
Begins wanted t = (is_expected wanted.expected t || (is_compared t && is_expected wanted.expected Truth)) ≡ true

pub begins_alone : (wanted : Wanted) (t : ValueType) → Wants wanted t → Begins wanted t
begins_alone wanted t wants = or_left (is_expected wanted.expected t) _ wants

pub begins_compared : (wanted : Wanted) (op : Op) (t : ValueType) → takes_left op t ≡ true → Wants wanted Truth → Begins wanted t
begins_compared wanted op t left wants = or_right (is_expected wanted.expected t) _ (and_from (is_compared t) (is_expected wanted.expected Truth) (left_compared op t left) wants)

or_between : (a b c : Bool) → (a || c) ≡ true → (a || (b || c)) ≡ true
or_between true b c e = refl
or_between false b c e = or_right b c e

-- an attribute of such a type is no vain beginning
pub attribute_hope : (wanted : Wanted) (a : Attr) → Begins wanted (attribute_type a) → in_vain wanted (bare_attribute a) ≡ None
attribute_hope wanted a begins =
    so_again _ _ (or_between (is_expected wanted.expected (attribute_type a)) (has_parts a && is_expected wanted.expected Int) (is_compared (attribute_type a) && is_expected wanted.expected Truth) begins)

-- nor is one whose parts, which are numbers, are of such a type
pub part_hope : (wanted : Wanted) (a : Attr) → has_parts a ≡ true → Begins wanted Int → in_vain wanted (bare_attribute a) ≡ None
part_hope wanted attr.Net parts begins = so_again _ _ (or_right (is_expected wanted.expected (attribute_type attr.Net)) _ begins)
part_hope wanted attr.Path parts begins = so_again _ _ (or_right (is_expected wanted.expected (attribute_type attr.Path)) _ begins)
part_hope wanted attr.Pairs parts begins = so_again _ _ (or_right (is_expected wanted.expected (attribute_type attr.Pairs)) _ begins)
part_hope wanted attr.Triples parts begins = so_again _ _ (or_right (is_expected wanted.expected (attribute_type attr.Triples)) _ begins)
part_hope wanted _ parts begins = absurd cc

-- nor is what an operator takes, where a comparison is wanted
pub compared_hope : (wanted : Wanted) (op : Op) (e : ExprTree) (t : ValueType) (b : Bool) → takes_left op t ≡ true → Wants wanted Truth → in_vain wanted (sound e t b) ≡ None
compared_hope wanted op e t b left wants =
    so_again _ _ (or_right (is_expected wanted.expected t) _ (or_right (b && is_expected wanted.expected Int) _ (and_from (is_compared t) (is_expected wanted.expected Truth) (left_compared op t left) wants)))

pub left_again : (wanted : Wanted) (op : Op) (e : ExprTree) (t : ValueType) (b : Bool) (p : ℕ) → takes_left op t ≡ true → Wants wanted Truth → option_or (fits_left op (sound e t b) p) (no_truth wanted) ≡ None
left_again wanted op e t b p left wants = none_both (fits_left op (sound e t b) p) _ (so_again (takes_left op t) _ left) (so_again (is_expected wanted.expected Truth) _ wants)

-- what is compared_operand without a misfit
pub compared_again : (op : Op) (e f : ExprTree) (t u : ValueType) (b c : Bool) (p : ℕ) → takes_right op t u ≡ true → sound (comparison op e f) Truth false ≡ compared_operand op (sound e t b) (sound f u c) p
compared_again op e f t u b c p same =
    sym (ap (λ x. record { tree = comparison op e f; ty = Truth; is_open = false; misfit = if x then None else Some p }) same)
