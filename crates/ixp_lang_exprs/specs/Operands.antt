-- What is known of an expression once it is read.
use Rattle.std.specs.Prelude.{ℕ, Bool, true, false, ◌||◌, ◌&&◌, ◌==◌, nat_le, List, [], ◌∷◌, Option, Some, None, option_map, if◌then◌else◌}
use Rattle.std.specs.Option.{option_or}
use Rattle.ixp_lang.specs.Trees.{ExprTree, literal, named, attribute, negation, conjunction, disjunction, comparison, pair, triple, exprs}
use Rattle.ixp_lang.specs.Views.{expr_view}
use Rattle.ixp_lang.specs.declared.expr.Op.{Op}
use Rattle.ixp_lang.specs.declared.value.Value.TheVariants as value
use Rattle.ixp_lang_tokens.specs.declared.fault.Cause.{Cause}
use Rattle.ixp_lang_tokens.specs.declared.fault.Cause.TheVariants.{Misfit}
use Rattle.ixp_lang_exprs.specs.declared.types.ValueType.{ValueType}
use Rattle.ixp_lang_exprs.specs.declared.types.ValueType.TheVariants.{Int, Bool as Truth}
use Rattle.ixp_lang_exprs.specs.declared.wanted.Expected.{Expected}
use Rattle.ixp_lang_exprs.specs.declared.wanted.Expected.TheVariants.{Anything, One}
use Rattle.ixp_lang_exprs.specs.declared.wanted.Wanted.{Wanted}
use Rattle.ixp_lang_exprs.specs.declared.types.Typed.{Typed}
use Rattle.ixp_lang_exprs.specs.Types.{same_type, takes_left, takes_right, is_compared, is_expected}
use Rattle.ixp_lang_exprs.specs.Sets.{unless_so}

-- Its tree and type; whether a `.` behind it would make it another operand; and the place of a type that
-- doesn't fit, which counts once the token behind is one that may stand there: of a comparison or a chain,
-- and of nothing that stands alone.
pub record Operand : Type 0 where
  pub tree : ExprTree
  pub ty : ValueType
  pub is_open : Bool
  pub misfit : Option ℕ

abbrev pub operand_of : Typed → Operand
operand_of typed =
    record { tree = expr_view typed.expr; ty = typed.ty; is_open = typed.is_open; misfit = typed.misfit }

abbrev pub closed : ExprTree → ValueType → Operand
closed tree ty = record { tree = tree; ty = ty; is_open = false; misfit = None }

abbrev pub misfit_at : ℕ → Cause × ℕ
misfit_at place = (Misfit, place)

-- the misfit that waited, now that the token behind is one that may stand there
abbrev pub settled : Operand → Option (Cause × ℕ)
settled operand = option_map misfit_at operand.misfit

-- the same, or that the type isn't the one that is wanted
abbrev pub fits : Operand → ValueType → ℕ → Option (Cause × ℕ)
fits operand wanted place = option_or (settled operand)
    (unless_so (same_type operand.ty wanted) (misfit_at place))

-- the operator at the place takes the operand on its left
abbrev pub fits_left : Op → Operand → ℕ → Option (Cause × ℕ)
fits_left op left place = unless_so (takes_left op left.ty) (misfit_at place)

-- What is wanted of an expression, and where it is told that it is of another type.

abbrev pub anything : Wanted
anything = record { expected = Anything; place = 0 }

abbrev pub one_type : ValueType → ℕ → Wanted
one_type ty place = record { expected = One ty; place = place }

-- An expression that begins with this operand may be of such a type: the operand is, or its parts, which are
-- numbers, or what compares it.
abbrev pub may_become : Expected → Operand → Bool
may_become expected first =
    is_expected expected first.ty || ((first.is_open && is_expected expected Int)
    || (is_compared first.ty && is_expected expected Truth))

-- with its first operand the expression can be of no type that is wanted
abbrev pub in_vain : Wanted → Operand → Option (Cause × ℕ)
in_vain wanted first = unless_so (may_become wanted.expected first) (misfit_at wanted.place)

-- a comparison isn't of a type that is wanted
abbrev pub no_truth : Wanted → Option (Cause × ℕ)
no_truth wanted = unless_so (is_expected wanted.expected Truth) (misfit_at wanted.place)

-- the operator at the place takes neither the operand on its right nor a part of it, which is a number
abbrev pub refused_now : Op → Operand → Operand → ℕ → Option (Cause × ℕ)
refused_now op left right place =
    unless_so (takes_right op left.ty right.ty
    || (right.is_open && takes_right op left.ty Int)) (misfit_at place)

-- Trees of what was read.

-- the operand of `!` at the place is a truth value
abbrev pub fits_negation : Operand → ℕ → Option (Cause × ℕ)
fits_negation operand place = unless_so (same_type operand.ty Truth) (misfit_at place)

abbrev pub negated : Operand → Operand
negated operand = closed (negation operand.tree) Truth

-- an operand on the right that doesn't fit waits: a part of it would
abbrev pub compared_operand : Op → Operand → Operand → ℕ → Operand
compared_operand op left right place = record {
  tree = comparison op left.tree right.tree;
  ty = Truth;
  is_open = false;
  misfit = if takes_right op left.ty right.ty then None else Some place;
}

-- the number that the expression is, if it is a literal
abbrev pub literal_number : ExprTree → Option ℕ
literal_number (literal (value.Int number)) = Some number
literal_number _ = None

-- a pair or triple of literals is a literal
abbrev pub pair_with : ExprTree → ExprTree → Option ℕ → Option ℕ → ExprTree
pair_with a b (Some m) (Some n) = literal (value.Pair m n)
pair_with a b _ _ = pair a b

abbrev pub pair_tree : ExprTree → ExprTree → ExprTree
pair_tree a b = pair_with a b (literal_number a) (literal_number b)

abbrev pub triple_with : ExprTree → ExprTree → ExprTree → Option ℕ → Option ℕ → Option ℕ → ExprTree
triple_with a b c (Some l) (Some m) (Some n) = literal (value.Triple l m n)
triple_with a b c _ _ _ = triple a b c

abbrev pub triple_tree : ExprTree → ExprTree → ExprTree → ExprTree
triple_tree a b c = triple_with a b c (literal_number a) (literal_number b) (literal_number c)
