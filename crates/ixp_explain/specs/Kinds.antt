-- Of which kind the values of expressions are, and what a function of a configuration takes and gives. In a
-- text that is read, all that a function returns has one type, and each name is declared once.
use Rattle.std.specs.Prelude.{Bool, true, false, ◌&&◌, List, [], ◌∷◌, ◌++◌, Option, Some, None, ℕ}
use Rattle.std.specs.Option.{option_or}
use Rattle.ixp_lang.specs.declared.expr.Attr.{Attr}
use Rattle.ixp_lang.specs.declared.expr.Attr.TheVariants as attr
use Rattle.ixp_lang.specs.declared.item.Ty.{Ty}
use Rattle.ixp_lang.specs.declared.item.Ty.TheVariants as ty
use Rattle.ixp_lang.specs.declared.value.Value.{Value}
use Rattle.ixp_lang.specs.declared.value.Value.TheVariants as value
use Rattle.ixp_lang.specs.Meaning.{find_named}
use Rattle.ixp_lang.specs.Trees.{ExprTree, literal, named, attribute, call, roa_check, pair, triple, set_literal, negation, conjunction, disjunction, comparison, StmtTree, block, if_then, case_of, return_value, StmtTrees, stmts_end, stmts_more, ArmTrees, arms_end, arms_more, ItemTree, router_id_item, table_item, define_item, function_item, filter_item, device_item, pipe_item, bgp_item}
use Rattle.ixp_explain.specs.declared.kinds.Kind.{Kind}
use Rattle.ixp_explain.specs.declared.kinds.Kind.TheVariants.{Number, Truth, Other}
use Rattle.ixp_explain.specs.declared.kinds.Sort.{Sort}
use Rattle.ixp_explain.specs.declared.kinds.Sort.TheVariants.{Value as Defined, Function, Item as Else}

abbrev pub kind_of_type : Ty → Kind
kind_of_type ty.Int = Number
kind_of_type ty.Bool = Truth
kind_of_type _ = Other

abbrev pub kind_of_value : Value → Kind
kind_of_value (value.Int n) = Number
kind_of_value (value.Bool b) = Truth
kind_of_value _ = Other

abbrev pub kind_of_attribute : Attr → Kind
kind_of_attribute attr.NetLen = Number
kind_of_attribute attr.First = Number
kind_of_attribute attr.Last = Number
kind_of_attribute attr.Len = Number
kind_of_attribute attr.PairsLen = Number
kind_of_attribute attr.TriplesLen = Number
kind_of_attribute _ = Other

-- what the items so far declare, by their names
abbrev pub Sorts : Type 0
Sorts = List (List ℕ × Sort)

abbrev pub defined_kind : Option Sort → Kind
defined_kind (Some (Defined kind)) = kind
defined_kind _ = Other

abbrev pub given_kind : Option Kind → Kind
given_kind None = Other
given_kind (Some kind) = kind

abbrev pub returned_kind : Option Sort → Kind
returned_kind (Some (Function takes gives)) = given_kind gives
returned_kind _ = Other

-- the type of the parameter of a name
abbrev pub param_of : List (Ty × List ℕ) → List (List ℕ × Ty)
param_of [] = []
param_of (p ∷ ps) = (p.1, p.0) ∷ param_of ps

abbrev pub named_kind : Option Ty → Kind → Kind
named_kind None kind = kind
named_kind (Some t) kind = kind_of_type t

module _ (sorts : Sorts) (params : List (Ty × List ℕ)) where
  -- the kind of an expression's value
  abbrev pub kind_of : ExprTree → Kind
  kind_of (literal v) = kind_of_value v
  kind_of (named n) = named_kind (find_named (param_of params) n) (defined_kind (find_named sorts n))
  kind_of (attribute a) = kind_of_attribute a
  kind_of (call n es) = returned_kind (find_named sorts n)
  kind_of (roa_check t e f) = Other
  kind_of (pair e f) = Other
  kind_of (triple e f g) = Other
  kind_of (set_literal s) = Other
  kind_of (negation e) = Truth
  kind_of (conjunction es) = Truth
  kind_of (disjunction es) = Truth
  kind_of (comparison o e f) = Truth

  -- the kind of what statements return, None where none of them returns
  abbrev mutual
    pub returned_by : StmtTree → Option Kind
    returned_by (block ss) = returned_in ss
    returned_by (if_then e ss ts) = option_or (returned_in ss) (returned_in ts)
    returned_by (case_of e arms ts) = option_or (returned_arms arms) (returned_in ts)
    returned_by (return_value e) = Some (kind_of e)
    returned_by _ = None

    pub returned_in : StmtTrees → Option Kind
    returned_in stmts_end = None
    returned_in (stmts_more s ss) = option_or (returned_by s) (returned_in ss)

    pub returned_arms : ArmTrees → Option Kind
    returned_arms arms_end = None
    returned_arms (arms_more ls ss arms) = option_or (returned_in ss) (returned_arms arms)

-- the parameters are one int
abbrev pub is_one_int : List (Ty × List ℕ) → Bool
is_one_int ((ty.Int, n) ∷ []) = true
is_one_int _ = false

abbrev pub device_sorts : Option (List ℕ) → Sorts
device_sorts None = []
device_sorts (Some n) = (n, Else) ∷ []

-- what an item declares
abbrev pub declared_by : Sorts → ItemTree → Sorts
declared_by sorts (router_id_item a) = []
declared_by sorts (table_item k n) = (n, Else) ∷ []
declared_by sorts (define_item n e) = (n, Defined (kind_of sorts [] e)) ∷ []
declared_by sorts (function_item n ps ss) = (n, Function (is_one_int ps) (returned_in sorts ps ss)) ∷ []
declared_by sorts (filter_item n ss) = (n, Else) ∷ []
declared_by sorts (device_item n) = device_sorts n
declared_by sorts (pipe_item p) = (p.name, Else) ∷ []
declared_by sorts (bgp_item b) = (b.name, Else) ∷ []

abbrev pub sorts_after : Sorts → List ItemTree → Sorts
sorts_after sorts [] = sorts
sorts_after sorts (i ∷ is) = sorts_after (sorts ++ declared_by sorts i) is

abbrev pub same_kind : Kind → Kind → Bool
same_kind Number Number = true
same_kind Truth Truth = true
same_kind Other Other = true
same_kind _ _ = false

abbrev pub gives : Kind → Option Kind → Bool
gives kind None = false
gives kind (Some k) = same_kind kind k

-- a name that no item has, or a function of one int that gives values of the kind
abbrev pub is_shaped : Kind → Option Sort → Bool
is_shaped kind None = true
is_shaped kind (Some (Function takes given)) = takes && gives kind given
is_shaped kind (Some _) = false
