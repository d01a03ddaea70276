-- How many steps are left at most.
use Rattle.std.specs.Prelude.{ℕ, ◌+◌, List, [], ◌∷◌, if◌then◌else◌}
use Rattle.ixp_lang.specs.Trees.{ExprTree, literal, named, attribute, call, roa_check, pair, triple, set_literal, negation, conjunction, disjunction, comparison, ExprTrees, exprs_end, exprs_more, StmtTree, block, if_then, case_of, return_value, accept, reject, call_statement, set_next_hop, prepend, add_pair, delete_pairs, add_triple, delete_triples, StmtTrees, stmts_end, stmts_more, ArmTrees, arms_end, arms_more, ItemTree, router_id_item, table_item, define_item, function_item, filter_item, device_item, pipe_item, bgp_item}
use Rattle.ixp_lang.specs.Meaning.{same_name}
use Rattle.ixp_eval.specs.Machine.{Todo, eval, run, name, apply, every, every_after, any, any_after, choose, select, calling, calling_after, changing, returning, accepting, rejecting}
use Rattle.ixp_eval.specs.Frames.{Body, Wait}

-- the steps of a defined name and of a function
pub record Costs : Type 0 where
  pub value : List ℕ → ℕ
  pub call : List ℕ → ℕ

module _ (c : Costs) where
  abbrev mutual
    pub expr_cost : ExprTree → ℕ
    expr_cost (literal v) = 1
    expr_cost (named n) = 2 + c.value n
    expr_cost (attribute a) = 1
    expr_cost (call n es) = 1 + args_cost n es
    expr_cost (roa_check t e f) = 2 + expr_cost e + expr_cost f
    expr_cost (pair e f) = 2 + expr_cost e + expr_cost f
    expr_cost (triple e f g) = 2 + expr_cost e + expr_cost f + expr_cost g
    expr_cost (set_literal s) = 1
    expr_cost (negation e) = 2 + expr_cost e
    expr_cost (conjunction es) = 1 + parts_cost es
    expr_cost (disjunction es) = 1 + parts_cost es
    expr_cost (comparison o e f) = 2 + expr_cost e + expr_cost f

    -- the parts of `&&` and `||`
    pub parts_cost : ExprTrees → ℕ
    parts_cost exprs_end = 1
    parts_cost (exprs_more e es) = 2 + expr_cost e + parts_cost es

    -- a call, with the arguments that are left
    pub args_cost : List ℕ → ExprTrees → ℕ
    args_cost n exprs_end = 1 + c.call n
    args_cost n (exprs_more e es) = 2 + expr_cost e + args_cost n es

  abbrev mutual
    pub stmt_cost : StmtTree → ℕ
    stmt_cost (block ss) = stmts_cost ss
    stmt_cost (if_then e ss tt) = 1 + expr_cost e + stmts_cost ss + stmts_cost tt
    stmt_cost (case_of e arms ss) = 1 + expr_cost e + arms_cost arms + stmts_cost ss
    stmt_cost (return_value e) = 1 + expr_cost e
    stmt_cost accept = 1
    stmt_cost reject = 1
    stmt_cost (call_statement n es) = args_cost n es
    stmt_cost (set_next_hop e) = 1 + expr_cost e
    stmt_cost (prepend e) = 1 + expr_cost e
    stmt_cost (add_pair e) = 1 + expr_cost e
    stmt_cost (delete_pairs e) = 1 + expr_cost e
    stmt_cost (add_triple e) = 1 + expr_cost e
    stmt_cost (delete_triples e) = 1 + expr_cost e

    pub stmts_cost : StmtTrees → ℕ
    stmts_cost stmts_end = 1
    stmts_cost (stmts_more s ss) = 1 + stmt_cost s + stmts_cost ss

    pub arms_cost : ArmTrees → ℕ
    arms_cost arms_end = 0
    arms_cost (arms_more ls ss arms) = stmts_cost ss + arms_cost arms

  abbrev pub todo_cost : Todo → ℕ
  todo_cost (eval e) = expr_cost e
  todo_cost (run ss) = stmts_cost ss
  todo_cost (name n) = 1 + c.value n
  todo_cost (apply o) = 1
  todo_cost (every es) = parts_cost es
  todo_cost (every_after es) = 1 + parts_cost es
  todo_cost (any es) = parts_cost es
  todo_cost (any_after es) = 1 + parts_cost es
  todo_cost (choose ss tt) = 1 + stmts_cost ss + stmts_cost tt
  todo_cost (select arms ss) = 1 + arms_cost arms + stmts_cost ss
  todo_cost (calling n w es args) = args_cost n es
  todo_cost (calling_after n w es args) = 1 + args_cost n es
  todo_cost (changing h) = 1
  todo_cost returning = 1
  todo_cost accepting = 1
  todo_cost rejecting = 1

  abbrev pub todos_cost : List Todo → ℕ
  todos_cost [] = 0
  todos_cost (t ∷ ts) = todo_cost t + todos_cost ts

-- with one more item
abbrev pub costs_after : ItemTree → Costs → Costs
costs_after (define_item n e) c =
    record { value = λ m. if same_name n m then 3 + expr_cost c e else c.value m; call = c.call }
costs_after (function_item n qs ss) c =
    record { value = c.value; call = λ m. if same_name n m then 1 + stmts_cost c ss else c.call m }
costs_after (router_id_item a) c = c
costs_after (table_item t n) c = c
costs_after (filter_item n ss) c = c
costs_after (device_item n) c = c
costs_after (pipe_item p) c = c
costs_after (bgp_item b) c = c

-- the items are the last one first
abbrev pub costs : List ItemTree → Costs
costs [] = record { value = λ n. 0; call = λ n. 0 }
costs (i ∷ is) = costs_after i (costs is)

-- a body has one step more, its end
abbrev pub body_cost : Body → ℕ
body_cost b = 1 + todos_cost (costs b.before) b.tasks

abbrev pub waits_cost : List Wait → ℕ
waits_cost [] = 0
waits_cost (w ∷ ws) = body_cost w.body + waits_cost ws

abbrev pub all_cost : Body → List Wait → ℕ
all_cost b ws = body_cost b + waits_cost ws
