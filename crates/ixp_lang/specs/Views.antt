-- The plain tree of each value of the program's own types.
use Rattle.std.specs.Prelude.{List, [], ◌∷◌, map, Vec}
use Rattle.std.specs.declared.alloc.Global.{Global}
use Rattle.ixp_lang.specs.declared.expr.Expr.{Expr}
use Rattle.ixp_lang.specs.declared.expr.Expr.TheOpen.{Expr-F}
use Rattle.ixp_lang.specs.declared.expr.Expr.TheFolds.{fold-Expr}
use Rattle.ixp_lang.specs.declared.stmt.Stmt.{Stmt}
use Rattle.ixp_lang.specs.declared.stmt.Label.{Label}
use Rattle.ixp_lang.specs.declared.stmt.Stmt.TheOpen.{Stmt-F}
use Rattle.ixp_lang.specs.declared.stmt.Stmt.TheFolds.{fold-Stmt}
use Rattle.ixp_lang.specs.declared.item.Item.{Item}
use Rattle.ixp_lang.specs.declared.item.Item.TheVariants.{RouterId, Table, Define, Function, Filter, Device, Pipe, Bgp}
use Rattle.ixp_lang.specs.declared.item.Config.{Config}
use Rattle.ixp_lang.specs.Trees.{ExprTree, literal, named, attribute, call, roa_check, pair, triple, set_literal, negation, conjunction, disjunction, comparison, exprs, StmtTree, block, if_then, case_of, return_value, accept, reject, call_statement, set_next_hop, prepend, add_pair, delete_pairs, add_triple, delete_triples, stmts, ArmTrees, arms_end, arms_more, ItemTree, router_id_item, table_item, define_item, function_item, filter_item, device_item, pipe_item, bgp_item}

-- one level of an expression, whose parts are seen already
abbrev pub expr_step : Expr-F ExprTree → ExprTree
expr_step (Expr-F.Lit v) = literal v
expr_step (Expr-F.Named n) = named n
expr_step (Expr-F.Attr a) = attribute a
expr_step (Expr-F.Call n es) = call n (exprs es.items)
expr_step (Expr-F.RoaCheck t a b) = roa_check t a.value b.value
expr_step (Expr-F.Pair a b) = pair a.value b.value
expr_step (Expr-F.Triple a b c) = triple a.value b.value c.value
expr_step (Expr-F.Set s) = set_literal s
expr_step (Expr-F.Not a) = negation a.value
expr_step (Expr-F.And es) = conjunction (exprs es.items)
expr_step (Expr-F.Or es) = disjunction (exprs es.items)
expr_step (Expr-F.Cmp o a b) = comparison o a.value b.value

-- the tree of an expression
abbrev pub expr_view : Expr → ExprTree
expr_view = fold-Expr ExprTree expr_step

abbrev pub arms_of : List (List Label × Vec StmtTree Global) → ArmTrees
arms_of [] = arms_end
arms_of (a ∷ arms) = arms_more a.0 (stmts a.1.items) (arms_of arms)

-- one level of a statement, whose parts are seen already
abbrev pub stmt_step : Stmt-F StmtTree → StmtTree
stmt_step (Stmt-F.Block ss) = block (stmts ss.items)
stmt_step (Stmt-F.If e ss ts) = if_then (expr_view e) (stmts ss.items) (stmts ts.items)
stmt_step (Stmt-F.Case e arms ss) = case_of (expr_view e) (arms_of arms.items) (stmts ss.items)
stmt_step (Stmt-F.Return e) = return_value (expr_view e)
stmt_step Stmt-F.Accept = accept
stmt_step Stmt-F.Reject = reject
stmt_step (Stmt-F.Call n es) = call_statement n (exprs (map expr_view es.items))
stmt_step (Stmt-F.SetNextHop e) = set_next_hop (expr_view e)
stmt_step (Stmt-F.Prepend e) = prepend (expr_view e)
stmt_step (Stmt-F.AddPair e) = add_pair (expr_view e)
stmt_step (Stmt-F.DeletePairs e) = delete_pairs (expr_view e)
stmt_step (Stmt-F.AddTriple e) = add_triple (expr_view e)
stmt_step (Stmt-F.DeleteTriples e) = delete_triples (expr_view e)

-- the tree of a statement
abbrev pub stmt_view : Stmt → StmtTree
stmt_view = fold-Stmt StmtTree stmt_step

abbrev pub exprs_view : List Expr → List ExprTree
exprs_view = map expr_view

abbrev pub stmts_view : List Stmt → List StmtTree
stmts_view = map stmt_view

-- the arms of a case
abbrev pub arms_view : List (List Label × Vec Stmt Global) → ArmTrees
arms_view [] = arms_end
arms_view (a ∷ arms) = arms_more a.0 (stmts (stmts_view a.1.items)) (arms_view arms)

-- the tree of an item
abbrev pub item_view : Item → ItemTree
item_view (RouterId a) = router_id_item a
item_view (Table k n) = table_item k n
item_view (Define n e) = define_item n (expr_view e)
item_view (Function n ps ss) = function_item n ps (stmts (stmts_view ss.items))
item_view (Filter n ss) = filter_item n (stmts (stmts_view ss.items))
item_view (Device n) = device_item n
item_view (Pipe p) = pipe_item p.value
item_view (Bgp b) = bgp_item b.value

-- the items of a configuration
abbrev pub config_view : Config → List ItemTree
config_view c = map item_view c.items.items
