-- What names stand for.
use Rattle.std.specs.Prelude.{ℕ, Bool, true, false, ◌==◌, List, [], ◌∷◌, Option, Some, None, if◌then◌else◌}
use Rattle.std.specs.Ordering.{nat_cmp}
use Rattle.std.specs.Cmp.Lexicographic.{slice_cmp}
use Rattle.std.specs.BTreeMap.{get_by}
use Rattle.ixp_lang.specs.Trees.{ExprTree, literal, named}
use Rattle.ixp_lang.specs.declared.value.Value.TheVariants as value
use Rattle.ixp_lang_exprs.specs.declared.types.ValueType.{ValueType}
use Rattle.ixp_lang_exprs.specs.declared.env.Signature.{Signature}
use Rattle.ixp_lang_exprs.specs.declared.env.Declared.{Declared}
use Rattle.ixp_lang_exprs.specs.declared.env.Table.{Table as Holder}
use Rattle.ixp_lang_exprs.specs.declared.env.Env.{Env}
use Rattle.ixp_lang_exprs.specs.declared.env.Declared.TheVariants.{Table, Define, Function, Filter, Protocol, Begun, Parameter}
use Rattle.ixp_lang_exprs.specs.declared.context.Context.{Context}
use Rattle.ixp_lang_exprs.specs.declared.context.Scope.{Scope}
use Rattle.ixp_lang_exprs.specs.declared.context.Scope.TheVariants as scope

-- what each name stands for, if it is declared
abbrev pub Names : Type 0
Names = List ℕ → Option Declared

abbrev pub names_of : Env → Names
names_of env name = get_by (λ key. slice_cmp nat_cmp name key.items) env.names

-- the names that a reader knows where it stands
abbrev pub names_at : Context → Names
names_at cx = names_of cx.env.now

-- the number that is defined under a name
abbrev pub number_of : Option Declared → Option ℕ
number_of (Some (Define ty number)) = number
number_of _ = None

-- the table of a name, and who has it
abbrev pub table_of : Option Declared → Option Holder
table_of (Some (Table table)) = Some table
table_of _ = None

-- the function of a name
abbrev pub function_of : Option Declared → Option Signature
function_of (Some (Function signature)) = Some signature
function_of _ = None

abbrev pub is_function : Scope → ℕ → Bool
is_function (scope.Function own) number = own == number
is_function _ number = false

abbrev pub is_define : Scope → Bool
is_define scope.Define = true
is_define _ = false

-- the type of a defined value, or of a parameter of the function that is read
abbrev pub value_of : Scope → Option Declared → Option ValueType
value_of s (Some (Define ty number)) = Some ty
value_of s (Some (Parameter function ty)) = if is_function s function then Some ty else None
value_of s _ = None

-- the number that a definition's value is, if it is one
abbrev pub defined_number : Names → ExprTree → Option ℕ
defined_number names (literal (value.Int number)) = Some number
defined_number names (named name) = number_of (names name)
defined_number names _ = None
