-- The trees of the filter language as plain data, without places in memory: what a text spells, what a
-- generator makes and what a meaning is given to (BIRD 2 User's Guide, chapters "Configuration" and
-- "Filters").
use Rattle.std.specs.Prelude.{ℕ, List, [], ◌∷◌, Option}
use Rattle.ixp_num.specs.declared.addr.Addr.{Addr}
use Rattle.ixp_lang.specs.declared.value.Value.{Value}
use Rattle.ixp_lang.specs.declared.value.SetLit.{SetLit}
use Rattle.ixp_lang.specs.declared.expr.Attr.{Attr}
use Rattle.ixp_lang.specs.declared.expr.Op.{Op}
use Rattle.ixp_lang.specs.declared.stmt.Label.{Label}
use Rattle.ixp_lang.specs.declared.item.Kind.{Kind}
use Rattle.ixp_lang.specs.declared.item.Ty.{Ty}
use Rattle.ixp_lang.specs.declared.item.Pipe.{Pipe}
use Rattle.ixp_lang.specs.declared.item.Bgp.{Bgp}

mutual
  -- an expression; a name is its bytes
  pub data ExprTree : Type 0 where
    literal : Value → ExprTree
    named : List ℕ → ExprTree
    attribute : Attr → ExprTree
    call : List ℕ → ExprTrees → ExprTree
    roa_check : List ℕ → ExprTree → ExprTree → ExprTree
    pair : ExprTree → ExprTree → ExprTree
    triple : ExprTree → ExprTree → ExprTree → ExprTree
    set_literal : SetLit → ExprTree
    negation : ExprTree → ExprTree
    conjunction : ExprTrees → ExprTree
    disjunction : ExprTrees → ExprTree
    comparison : Op → ExprTree → ExprTree → ExprTree

  -- expressions in order
  pub data ExprTrees : Type 0 where
    exprs_end : ExprTrees
    exprs_more : ExprTree → ExprTrees → ExprTrees

mutual
  -- a statement
  pub data StmtTree : Type 0 where
    block : StmtTrees → StmtTree
    if_then : ExprTree → StmtTrees → StmtTrees → StmtTree
    case_of : ExprTree → ArmTrees → StmtTrees → StmtTree
    return_value : ExprTree → StmtTree
    accept : StmtTree
    reject : StmtTree
    call_statement : List ℕ → ExprTrees → StmtTree
    set_next_hop : ExprTree → StmtTree
    prepend : ExprTree → StmtTree
    add_pair : ExprTree → StmtTree
    delete_pairs : ExprTree → StmtTree
    add_triple : ExprTree → StmtTree
    delete_triples : ExprTree → StmtTree

  -- statements in order
  pub data StmtTrees : Type 0 where
    stmts_end : StmtTrees
    stmts_more : StmtTree → StmtTrees → StmtTrees

  -- the arms of a case: labels and statements
  pub data ArmTrees : Type 0 where
    arms_end : ArmTrees
    arms_more : List Label → StmtTrees → ArmTrees → ArmTrees

-- an item of a configuration; a configuration is the list of its items
pub data ItemTree : Type 0 where
  router_id_item : Addr → ItemTree
  table_item : Kind → List ℕ → ItemTree
  define_item : List ℕ → ExprTree → ItemTree
  function_item : List ℕ → List (Ty × List ℕ) → StmtTrees → ItemTree
  filter_item : List ℕ → StmtTrees → ItemTree
  device_item : Option (List ℕ) → ItemTree
  pipe_item : Pipe → ItemTree
  bgp_item : Bgp → ItemTree

-- a plain list of expressions, or of statements, as the trees hold it
abbrev pub exprs : List ExprTree → ExprTrees
exprs [] = exprs_end
exprs (e ∷ es) = exprs_more e (exprs es)

abbrev pub stmts : List StmtTree → StmtTrees
stmts [] = stmts_end
stmts (s ∷ ss) = stmts_more s (stmts ss)
