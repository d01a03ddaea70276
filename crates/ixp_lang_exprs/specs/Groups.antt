-- What stands in parentheses, as the program holds it.
use Rattle.std.specs.Prelude.{◌≡◌, ◌<◌, ◌+◌, ℕ, zero, suc, Bool, true, false, ◌==◌, ◌-◌, nat_lt, List, [], ◌∷◌, length, map, Option, Some, None, option_map, if◌then◌else◌, Result, Ok, Err}
use Rattle.ixp_lang.specs.Trees.{ExprTree, call, exprs, set_literal}
use Rattle.ixp_lang.specs.Views.{exprs_view}
use Rattle.ixp_lang.specs.declared.value.Value.{Value}
use Rattle.ixp_lang.specs.declared.value.Value.TheVariants as value
use Rattle.ixp_lang_tokens.specs.declared.token.Kind.{Kind}
use Rattle.ixp_lang_tokens.specs.declared.token.Kind.TheVariants as kind
use Rattle.ixp_lang_tokens.specs.declared.token.Mark.TheVariants as mark
use Rattle.ixp_lang_tokens.specs.Grammars.{Grammar, Step, onward, done, sequence, choice, takes, here, gives}
use Rattle.ixp_lang_tokens.specs.Reading.{Read, read, kinds, ◌>>=◌}
use Rattle.ixp_lang_tokens.specs.Pieces.{the_mark, is_next, is_mark, a_name}
use Rattle.ixp_lang_exprs.specs.declared.context.Context.{Context}
use Rattle.ixp_lang_exprs.specs.declared.env.Signature.{Signature}
use Rattle.ixp_lang_exprs.specs.declared.parts.Parts.{Parts as HeldParts}
use Rattle.ixp_lang_exprs.specs.declared.group.Shape.{Shape as HeldShape}
use Rattle.ixp_lang_exprs.specs.declared.group.Shape.TheVariants.{Plain, Call, RoaCheck}
use Rattle.ixp_lang_exprs.specs.declared.group.Opened.{Opened}
use Rattle.ixp_lang_exprs.specs.declared.group.Opening.{Opening}
use Rattle.ixp_lang_exprs.specs.declared.group.Opening.TheVariants as opening
use Rattle.ixp_lang_exprs.specs.declared.types.ValueType.TheVariants.{State}
use Rattle.ixp_lang_exprs.specs.declared.wanted.Wanted.{Wanted}
use Rattle.ixp_lang_exprs.specs.Names.{names_of}
use Rattle.ixp_lang_exprs.specs.Lists.{never}
use Rattle.ixp_lang_exprs.specs.Sets.{elements}
use Rattle.ixp_lang_exprs.specs.Operands.{Operand, closed, misfit_at, literal_number}
use Rattle.ixp_lang_exprs.specs.Expressions.{Place, Shape, plain, arguments, roa_values, Parts, no_parts, enclosed, plain_operand, check_tree, type_or, Deeper, nothing, deeper, unary_form, literal_in, word_in, outside_define, attribute_in, attribute_form, named_value, called, is_left, plain_form, check_form, named_form, expression_form, ends_with}

abbrev pub place_of : Context → Place
place_of cx = record { names = names_of cx.env.now; scope = cx.scope; statement = cx.statement }

-- How many parts there are at least: one in parentheses, any number in a call, and two behind the table of
-- roa_check.
abbrev pub least : HeldShape → ℕ
least Plain = 1
least (Call signature) = 0
least RoaCheck = 2

-- and of n parts there are fewer than this: three in parentheses at most, and two behind the table
abbrev pub limit : HeldShape → ℕ → ℕ
limit Plain n = 4
limit (Call signature) n = n + 2
limit RoaCheck n = 3

abbrev pub shape_of : HeldShape → Shape
shape_of Plain = plain
shape_of (Call signature) = arguments signature.now.params
shape_of RoaCheck = roa_values

-- the parts that are held
abbrev pub parts_of : HeldParts → Parts
parts_of parts = record { trees = exprs_view parts.exprs.items; first = parts.first; ty = parts.ty }

-- the last round, or one that goes on
abbrev pub closing : {S : Type 0} → Bool → S → Step S S
closing true s = done s
closing false s = onward s

abbrev pub shape_in : Opening → HeldShape
shape_in opening.Plain = Plain
shape_in (opening.Call name signature) = Call signature
shape_in (opening.Check table) = RoaCheck

-- the literal that two or three literals are
abbrev pub pair_value : Option ℕ → Option ℕ → Option Value
pair_value (Some m) (Some n) = Some (value.Pair m n)
pair_value _ _ = None

abbrev pub literal_pair : List ExprTree → Option Value
literal_pair (a ∷ b ∷ []) = pair_value (literal_number a) (literal_number b)
literal_pair _ = None

abbrev pub triple_value : Option ℕ → Option ℕ → Option ℕ → Option Value
triple_value (Some l) (Some m) (Some n) = Some (value.Triple l m n)
triple_value _ _ _ = None

abbrev pub literal_triple : List ExprTree → Option Value
literal_triple (a ∷ b ∷ c ∷ []) = triple_value (literal_number a) (literal_number b) (literal_number c)
literal_triple _ = None

abbrev pub call_tree : List ℕ → Signature → List ExprTree → Operand
call_tree name signature args = closed (call name (exprs args)) (type_or signature.returns)

-- the operand that the parts make
abbrev pub finished : Opening → Parts → Operand
finished opening.Plain parts = plain_operand parts
finished (opening.Call name signature) parts = call_tree name.now signature.now parts.trees
finished (opening.Check table) parts = closed (check_tree table.now parts.trees) State

abbrev pub finished_read : Opening → Parts × List Kind → Read Operand
finished_read opened a = Ok (finished opened a.0, a.1)

abbrev pub finishing : Opening → Read Parts → Read Operand
finishing opened r = r >>= finished_read opened

-- what is read where a group may have no part: None where its parts have to be read
abbrev pub partless : Place → Shape → ℕ → List Kind → Option (Read Parts)
partless at (arguments []) place tokens =
    Some (read (enclosed at (λ wanted. never) (arguments []) place) tokens)
partless at (arguments (p ∷ ps)) place tokens =
    if is_next (is_mark mark.Close) tokens then Some (Err (misfit_at place)) else None
partless at plain place tokens = None
partless at roa_values place tokens = None

-- what stands alone one level deeper, where so many levels are left
abbrev pub below_if : Bool → (Wanted → Grammar Operand) → Deeper
below_if true unary = nothing
below_if false unary = deeper unary

abbrev pub below : Place → ℕ → Deeper
below at depth = below_if (depth == 0) (unary_form at (depth - 1))

abbrev pub set_in : Place → Bool → Grammar Operand
set_in at is_level_left = sequence (the_mark mark.SetOpen)
    (λ tt. sequence (elements at.names is_level_left) (λ s. gives (closed (set_literal s.0) s.1)))

abbrev pub attribute_or_set : Place → Wanted → Bool → Grammar Operand
attribute_or_set at wanted is_level_left = choice (sequence (takes (word_in (outside_define at attribute_in)))
    (attribute_form wanted)) (set_in at is_level_left)

-- literals, attributes and sets
abbrev pub leaf_form : Place → Wanted → Bool → Grammar Operand
leaf_form at wanted is_level_left = choice (takes literal_in) (attribute_or_set at wanted is_level_left)

-- the same, or the name of a value
abbrev pub atom_form : Place → Wanted → Bool → Grammar Operand
atom_form at wanted is_level_left =
    choice (here (λ place. sequence a_name (λ name. named_value at name place)))
    (leaf_form at wanted is_level_left)

-- the function that is next, where an expression may call one
abbrev pub call_in : Place → List Kind → Option (List ℕ × Signature × List Kind)
call_in at [] = None
call_in at (kind.Name name ∷ tokens) = option_map (λ s. (name, s, tokens)) (called at name)
call_in at (_ ∷ tokens) = None

-- a call, the name of a value, or what has no name
abbrev pub call_or : Place → Wanted → Deeper → Grammar Operand
call_or at wanted inner = choice (named_form at inner) (leaf_form at wanted (is_left inner))

-- or `roa_check`
abbrev pub check_or : Place → Wanted → Deeper → Grammar Operand
check_or at wanted inner = choice (check_form at inner) (call_or at wanted inner)

-- or what is in parentheses
abbrev pub plain_or : Place → Wanted → Deeper → Grammar Operand
plain_or at wanted inner = choice (plain_form at inner) (check_or at wanted inner)

-- what is left to be read where a group begins, and where none does
abbrev pub from_opening : Place → Wanted → ℕ → List Kind → Option Opened → Read Operand
from_opening at wanted depth tokens None = read (atom_form at wanted (nat_lt 0 depth)) tokens
from_opening at wanted depth tokens (Some opened) =
    finishing opened.opening (read (enclosed at (expression_form at (depth - 1))
    (shape_of (shape_in opened.opening)) opened.place) (kinds opened.behind.now))
