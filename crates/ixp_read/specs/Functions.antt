-- Functions and filters.
use Rattle.std.specs.Prelude.{ℕ, Bool, true, false, ◌&&◌, ◌==◌, not, List, [], ◌∷◌, ◌++◌, codes, Option, Some, None, if◌then◌else◌}
use Rattle.std.specs.Option.{is_some}
use Rattle.ixp_lang.specs.Trees.{StmtTree, stmts, function_item, filter_item}
use Rattle.ixp_lang.specs.declared.item.Ty.{Ty}
use Rattle.ixp_lang.specs.declared.item.Ty.TheVariants as ty
use Rattle.ixp_lang_tokens.specs.declared.fault.Cause.TheVariants.{Twice}
use Rattle.ixp_lang_tokens.specs.declared.token.Mark.TheVariants.{Semicolon, Open, Close, BlockOpen, Arrow}
use Rattle.ixp_lang_tokens.specs.Grammars.{Step, Grammar, gives, takes, sequence, choice, rounds, checks, here, onward, done}
use Rattle.ixp_lang_tokens.specs.Pieces.{the_mark, the_word, same_word, a_name}
use Rattle.ixp_lang_exprs.specs.declared.types.ValueType.{ValueType}
use Rattle.ixp_lang_exprs.specs.declared.env.Signature.{Signature}
use Rattle.ixp_lang_exprs.specs.declared.env.Declared.TheVariants.{Function, Filter, Begun, Parameter}
use Rattle.ixp_lang_exprs.specs.declared.context.Scope.TheVariants as scope
use Rattle.ixp_lang_exprs.specs.Types.{type_of}
use Rattle.ixp_lang_exprs.specs.Names.{Names}
use Rattle.ixp_lang_exprs.specs.Declarations.{Declares, standing, is_free_in, free_name}
use Rattle.ixp_lang_exprs.specs.Lists.{only, ended}
use Rattle.ixp_lang_exprs.specs.Sets.{unless_so}
use Rattle.ixp_lang_exprs.specs.Operands.{misfit_at}
use Rattle.ixp_lang_exprs.specs.Expressions.{word_in}
use Rattle.ixp_lang_stmts.specs.Statements.{Frame, Returned, Said, body_form}

-- Types as they are written.

abbrev pub type_in : List ℕ → Option Ty
type_in word =
    if same_word word (codes "int") then Some ty.Int else
    (if same_word word (codes "bool") then Some ty.Bool else
    (if same_word word (codes "ip") then Some ty.Ip else
    (if same_word word (codes "prefix") then Some ty.Prefix else
    (if same_word word (codes "pair") then Some ty.Pair else
    (if same_word word (codes "lc") then Some ty.Lc else None)))))

-- the type of the sets of such elements
abbrev pub set_of : Ty → Ty
set_of ty.Int = ty.IntSet
set_of ty.Ip = ty.IpSet
set_of ty.Prefix = ty.PrefixSet
set_of ty.Pair = ty.PairSet
set_of ty.Lc = ty.LcSet
set_of t = t

abbrev pub has_sets : Ty → Bool
has_sets ty.Bool = false
has_sets _ = true

abbrev pub type_form : Grammar Ty
type_form =
    sequence (takes (word_in type_in)) (λ t. choice
    (only (has_sets t) (sequence (the_word (codes "set")) (λ tt. gives (set_of t)))) (gives t))

-- Functions.

-- the parameters so far, and what names stand for with them
pub record Params : Type 0 where
  pub params : List (Ty × List ℕ)
  pub types : List ValueType
  pub names : Names

abbrev pub with_param : Params → ℕ → Ty → List ℕ → Params
with_param before number t name = record {
  params = before.params ++ (t, name) ∷ [];
  types = before.types ++ type_of t ∷ [];
  names = standing before.names name (Parameter number (type_of t));
}

abbrev pub param_form : ℕ → Params → Grammar Params
param_form number before =
    sequence type_form (λ t.
    here (λ left.
    sequence a_name (λ name.
    checks (unless_so (is_free_in (before.names name) number) (Twice, left))
    (gives (with_param before number t name)))))

abbrev pub no_params : Names → Params
no_params names = record { params = []; types = []; names = names }

-- one parameter behind those before it, and a semicolon where another one follows
abbrev pub param_round : ℕ → Params → Grammar (Step Params Params)
param_round number before = sequence (param_form number before)
    (λ params. choice (ended Semicolon (onward params)) (gives (done params)))

-- the parameters of the function that has this number, in parentheses
abbrev pub params_form : ℕ → Names → Grammar Params
params_form number names =
    sequence (the_mark Open) (λ tt.
    choice (ended Close (no_params names))
    (sequence (rounds (param_round number) (no_params names)) (λ params. ended Close params)))

-- the type that a function is said to return, if one is
abbrev pub written_form : Grammar (Option ValueType)
written_form = choice (sequence (the_mark Arrow) (λ tt. sequence type_form (λ t. gives (Some (type_of t)))))
    (gives None)

abbrev pub as_written : Option ValueType → Returned
as_written written = record { ty = written; is_met = false }

-- how many levels there may be in the block of a filter or function, which is one itself: 64 in all
abbrev pub levels_inside : ℕ
levels_inside = 63

-- a function's head: its name and parameters, and what names stand for in its body
pub record Head : Type 0 where
  pub name : List ℕ
  pub params : Params

abbrev pub head_with : List ℕ → Params → Head
head_with name params = record { name = name; params = params }

-- nothing may use the function in its own body
abbrev pub head_form : ℕ → Names → Grammar Head
head_form number names =
    sequence (free_name names) (λ name. sequence (params_form number (standing names name Begun))
    (λ params. gives (head_with name params)))

-- a function's body, and what it returns
pub record Body : Type 0 where
  pub statements : List StmtTree
  pub returns : Option ValueType

abbrev pub body_with : Said (List StmtTree) → Body
body_with body = record { statements = body.it; returns = body.returned.ty }

abbrev pub frame_in : ℕ → Names → Frame
frame_in number names = record { names = names; scope = scope.Function number }

-- a body with so many levels in it at most; a type that is written needs a `return`
abbrev pub body_within : ℕ → ℕ → Names → Grammar Body
body_within levels number names =
    here (λ place.
    sequence written_form (λ written.
    sequence (the_mark BlockOpen) (λ tt.
    sequence (body_form (frame_in number names) levels (as_written written)) (λ body.
    checks (unless_so (not (is_some written && not body.returned.is_met)) (misfit_at place))
    (gives (body_with body))))))

abbrev pub body_end : ℕ → Names → Grammar Body
body_end number names = body_within levels_inside number names

abbrev pub signature_of : Head → Body → Signature
signature_of head body = record { params = head.params.types; returns = body.returns }

abbrev pub function_with : Head → Body → Declares
function_with head body = (
  function_item head.name head.params.params (stmts body.statements),
  standing head.params.names head.name
      (Function (signature_of head body)),
)

-- what follows `function`, before which there are so many items, with so many levels in its block at most
abbrev pub function_within : ℕ → ℕ → Names → Grammar Declares
function_within levels number names =
    sequence (head_form number names) (λ head. sequence (body_within levels number head.params.names)
    (λ body. gives (function_with head body)))

abbrev pub function_form : ℕ → Names → Grammar Declares
function_form number names = function_within levels_inside number names

abbrev pub filter_with : Names → List ℕ → Said (List StmtTree) → Declares
filter_with names name body = (filter_item name (stmts body.it), standing names name Filter)

-- what follows `filter`, with so many levels in its block at most
abbrev pub filter_within : ℕ → Names → Grammar Declares
filter_within levels names =
    sequence (free_name names) (λ name.
    sequence (the_mark BlockOpen) (λ tt.
    sequence (body_form (record { names = names; scope = scope.Filter }) levels (as_written None)) (λ body.
    gives (filter_with names name body))))

abbrev pub filter_form : Names → Grammar Declares
filter_form names = filter_within levels_inside names
