-- A step costs something, so a run ends.
use Rattle.std.specs.Prelude.{◌≡◌, ◌<◌, ◌≤◌, ◌+◌, ℕ, Bool, true, false, List, [], ◌∷◌, Option, Some, None, if◌then◌else◌, refl}
use Rattle.std.proofs.Common.{arith}
use Rattle.ixp_lang.specs.declared.route.Route.{Route}
use Rattle.ixp_lang.specs.declared.value.Value.{Value}
use Rattle.ixp_lang.specs.declared.item.Ty.{Ty}
use Rattle.ixp_lang.specs.Attributes.{truth, has_label}
use Rattle.ixp_lang.specs.Trees.{ExprTree, literal, named, attribute, call, roa_check, pair, triple, set_literal, negation, conjunction, disjunction, comparison, ExprTrees, exprs_end, exprs_more, StmtTree, block, if_then, case_of, return_value, accept, reject, call_statement, set_next_hop, prepend, add_pair, delete_pairs, add_triple, delete_triples, StmtTrees, stmts_end, stmts_more, ArmTrees, arms_end, arms_more, ItemTree, router_id_item, table_item, define_item, function_item, filter_item, device_item, pipe_item, bgp_item}
use Rattle.ixp_lang.specs.Meaning.{Environment, End, falls, returns, accepts, rejects, fails, same_name, find_named, function_of}
use Rattle.std.specs.Prelude.{Result, Ok, Err}
use Rattle.ixp_lang.specs.Faults.{Fault}
use Rattle.ixp_eval.specs.Machine.{Todo, eval, run, name, apply, every, every_after, any, any_after, choose, select, calling, calling_after, changing, returning, accepting, rejecting, Act, on, wants, calls, done, faulty, act, begun, begun_stmt, ran, every_of, any_of, every_goes, any_goes, chosen, called, acted, onto, applied, top, below}
use Rattle.ixp_eval.specs.Frames.{Body, Wait, Next, goes, stops, breaks, define_of, looks_given, looks_defined, enters, next_of, fallen, returned, resumes, moves, at, step}
use Rattle.ixp_eval.specs.Costs.{Costs, expr_cost, parts_cost, args_cost, stmt_cost, stmts_cost, arms_cost, todos_cost, costs, waits_cost, all_cost}
use Rattle.ixp_eval.proofs.BodySteps.{if_by}

module _ (c : Costs) where
  -- what is left after a step inside a body is less than `n`
  abbrev pub ActBelow : ℕ → Act → Type 0
  ActBelow n (on ts vs r) = todos_cost c ts < n
  ActBelow n (wants m ts vs r) = 1 + c.value m + todos_cost c ts ≤ n
  ActBelow n (calls m w xs ts vs r) = 1 + c.call m + todos_cost c ts ≤ n
  ActBelow n (done e) = Unit {0}
  ActBelow n (faulty f) = Unit {0}

  begun_below : (env : Environment) (e : ExprTree) (ts : List Todo) (vs : List Value) (r : Route) → ActBelow (expr_cost c e + todos_cost c ts) (begun env e ts vs r)
  begun_below env (literal v) ts vs r = omega arith
  begun_below env (named n) ts vs r = omega arith
  begun_below env (attribute a) ts vs r = omega arith
  begun_below env (call n es) ts vs r = omega arith
  begun_below env (roa_check t e f) ts vs r = omega arith
  begun_below env (pair e f) ts vs r = omega arith
  begun_below env (triple e f g) ts vs r = omega arith
  begun_below env (set_literal s) ts vs r = omega arith
  begun_below env (negation e) ts vs r = omega arith
  begun_below env (conjunction es) ts vs r = omega arith
  begun_below env (disjunction es) ts vs r = omega arith
  begun_below env (comparison o e f) ts vs r = omega arith

  begun_stmt_below : (s : StmtTree) (ts : List Todo) → todos_cost c (begun_stmt s ts) ≤ stmt_cost c s + todos_cost c ts
  begun_stmt_below (block ss) ts = omega arith
  begun_stmt_below (if_then e ss tt) ts = omega arith
  begun_stmt_below (case_of e arms ss) ts = omega arith
  begun_stmt_below (return_value e) ts = omega arith
  begun_stmt_below accept ts = omega arith
  begun_stmt_below reject ts = omega arith
  begun_stmt_below (call_statement n es) ts = omega arith
  begun_stmt_below (set_next_hop e) ts = omega arith
  begun_stmt_below (prepend e) ts = omega arith
  begun_stmt_below (add_pair e) ts = omega arith
  begun_stmt_below (delete_pairs e) ts = omega arith
  begun_stmt_below (add_triple e) ts = omega arith
  begun_stmt_below (delete_triples e) ts = omega arith

  ran_below : (ss : StmtTrees) (ts : List Todo) → todos_cost c (ran ss ts) < stmts_cost c ss + todos_cost c ts
  ran_below stmts_end ts = omega arith
  ran_below (stmts_more s ss) ts = omega (arith, begun_stmt_below s (run ss ∷ ts))

  acted_below : (w : Result (List Value) Fault) (ts : List Todo) (r : Route) → ActBelow (1 + todos_cost c ts) (acted w ts r)
  acted_below (Ok vs) ts r = omega arith
  acted_below (Err f) ts r = tt

  every_below : (es : ExprTrees) (ts : List Todo) (vs : List Value) (r : Route) → ActBelow (parts_cost c es + todos_cost c ts) (onto (every_of es ts vs) r)
  every_below exprs_end ts vs r = omega arith
  every_below (exprs_more e es) ts vs r = omega arith

  any_below : (es : ExprTrees) (ts : List Todo) (vs : List Value) (r : Route) → ActBelow (parts_cost c es + todos_cost c ts) (onto (any_of es ts vs) r)
  any_below exprs_end ts vs r = omega arith
  any_below (exprs_more e es) ts vs r = omega arith

  every_goes_below : (b : Bool) (es : ExprTrees) (ts : List Todo) (vs : List Value) (r : Route) → ActBelow (1 + parts_cost c es + todos_cost c ts) (onto (every_goes b es ts vs) r)
  every_goes_below true es ts vs r = omega arith
  every_goes_below false es ts vs r = omega arith

  any_goes_below : (b : Bool) (es : ExprTrees) (ts : List Todo) (vs : List Value) (r : Route) → ActBelow (1 + parts_cost c es + todos_cost c ts) (onto (any_goes b es ts vs) r)
  any_goes_below true es ts vs r = omega arith
  any_goes_below false es ts vs r = omega arith

  choice_below : (b : Bool) (ss tt : StmtTrees) (m n : ℕ) → stmts_cost c ss ≤ m → stmts_cost c tt ≤ n → stmts_cost c (if b then ss else tt) ≤ m + n
  choice_below true ss tt m n h k = omega arith
  choice_below false ss tt m n h k = omega arith

  chosen_below : (arms : ArmTrees) (ss : StmtTrees) (v : Value) → stmts_cost c (chosen arms ss v) ≤ arms_cost c arms + stmts_cost c ss
  chosen_below arms_end ss v = omega arith
  chosen_below (arms_more ls tt arms) ss v =
      let h = choice_below (has_label ls v) tt (chosen arms ss v) (stmts_cost c tt) (arms_cost c arms + stmts_cost c ss) (omega arith) (chosen_below arms ss v)
      in omega arith

  called_below : (n : List ℕ) (w : Bool) (es : ExprTrees) (xs : List Value) (ts : List Todo) (vs : List Value) (r : Route) → ActBelow (args_cost c n es + todos_cost c ts) (called n w es xs ts vs r)
  called_below n w exprs_end xs ts vs r = omega arith
  called_below n w (exprs_more e es) xs ts vs r = omega arith

  pub act_below : (env : Environment) (ts : List Todo) (vs : List Value) (r : Route) → ActBelow (todos_cost c ts) (act env ts vs r)
  act_below env [] vs r = tt
  act_below env (eval e ∷ ts) vs r = begun_below env e ts vs r
  act_below env (run ss ∷ ts) vs r = ran_below ss ts
  act_below env (name n ∷ ts) vs r = omega arith
  act_below env (apply o ∷ ts) vs r = acted_below (applied env o vs) ts r
  act_below env (every es ∷ ts) vs r = every_below es ts vs r
  act_below env (every_after es ∷ ts) vs r = every_goes_below (truth (top vs)) es ts (below vs) r
  act_below env (any es ∷ ts) vs r = any_below es ts vs r
  act_below env (any_after es ∷ ts) vs r = any_goes_below (truth (top vs)) es ts (below vs) r
  act_below env (choose ss tt ∷ ts) vs r =
      let h = choice_below (truth (top vs)) ss tt (stmts_cost c ss) (stmts_cost c tt) (omega arith) (omega arith) in omega arith
  act_below env (select arms ss ∷ ts) vs r = omega (arith, chosen_below arms ss (top vs))
  act_below env (calling n w es xs ∷ ts) vs r = called_below n w es xs ts vs r
  act_below env (calling_after n w es xs ∷ ts) vs r = omega arith
  act_below env (changing h ∷ ts) vs r = omega arith
  act_below env (returning ∷ ts) vs r = tt
  act_below env (accepting ∷ ts) vs r = tt
  act_below env (rejecting ∷ ts) vs r = tt

-- the costs of a name and of a function are those of what is found
abbrev defined_cost : Option (List ItemTree × ExprTree) → ℕ
defined_cost None = 0
defined_cost (Some d) = 3 + expr_cost (costs d.0) d.1

abbrev function_cost : Option (List ItemTree × List (Ty × List ℕ) × StmtTrees) → ℕ
function_cost None = 0
function_cost (Some f) = 1 + stmts_cost (costs f.0) f.2

defined_costs : (is : List ItemTree) (n : List ℕ) → defined_cost (define_of is n) ≡ (costs is).value n
defined_costs [] n = refl
defined_costs (define_item m e ∷ is) n = if_by defined_cost (same_name m n) (Some (is, e)) (define_of is n) _ (defined_costs is n)
defined_costs (router_id_item a ∷ is) n = defined_costs is n
defined_costs (table_item t m ∷ is) n = defined_costs is n
defined_costs (function_item m qs ss ∷ is) n = defined_costs is n
defined_costs (filter_item m ss ∷ is) n = defined_costs is n
defined_costs (device_item m ∷ is) n = defined_costs is n
defined_costs (pipe_item p ∷ is) n = defined_costs is n
defined_costs (bgp_item b ∷ is) n = defined_costs is n

function_costs : (is : List ItemTree) (n : List ℕ) → function_cost (function_of is n) ≡ (costs is).call n
function_costs [] n = refl
function_costs (function_item m qs ss ∷ is) n = if_by function_cost (same_name m n) (Some (is, qs, ss)) (function_of is n) _ (function_costs is n)
function_costs (router_id_item a ∷ is) n = function_costs is n
function_costs (table_item t m ∷ is) n = function_costs is n
function_costs (define_item m e ∷ is) n = function_costs is n
function_costs (filter_item m ss ∷ is) n = function_costs is n
function_costs (device_item m ∷ is) n = function_costs is n
function_costs (pipe_item p ∷ is) n = function_costs is n
function_costs (bgp_item b ∷ is) n = function_costs is n

-- what is left after a step is less than `n`
abbrev pub IsBelow : ℕ → Next → Type 0
IsBelow n (goes b ws r) = all_cost b ws < n
IsBelow n (stops e) = Unit {0}
IsBelow n (breaks f) = Unit {0}

defined_below : (m : ℕ) (d : Option (List ItemTree × ExprTree)) (n : List ℕ) (b : Body) (ws : List Wait) (r : Route) →
    defined_cost d + all_cost b ws < m → IsBelow m (next_of (looks_defined d n b ws) r)
defined_below m None n b ws r h = tt
defined_below m (Some d) n b ws r h = omega arith

given_below : (m : ℕ) (g : Option Value) (n : List ℕ) (b : Body) (ws : List Wait) (r : Route) →
    (costs b.before).value n + all_cost b ws < m → IsBelow m (next_of (looks_given g n b ws) r)
given_below m (Some v) n b ws r h = omega arith
given_below m None n b ws r h = defined_below m (define_of b.before n) n b ws r (omega (arith, h, defined_costs b.before n))

enters_below : (m : ℕ) (f : Option (List ItemTree × List (Ty × List ℕ) × StmtTrees)) (n : List ℕ) (w : Bool) (xs : List Value) (b : Body) (ws : List Wait) (r : Route) →
    function_cost f + all_cost b ws < m → IsBelow m (next_of (enters f n w xs b ws) r)
enters_below m None n w xs b ws r h = tt
enters_below m (Some f) n w xs b ws r h = omega arith

fallen_below : (m : ℕ) (t : Bool) (n : List ℕ) (b : Body) (ws : List Wait) (r : Route) → all_cost b ws < m → IsBelow m (fallen t n b ws r)
fallen_below m true n b ws r h = tt
fallen_below m false n b ws r h = h

returned_below : (m : ℕ) (t : Bool) (v : Value) (b : Body) (ws : List Wait) (r : Route) → all_cost b ws < m → IsBelow m (returned t v b ws r)
returned_below m true v b ws r h = h
returned_below m false v b ws r h = h

resumes_below : (m : ℕ) (e : End) (ws : List Wait) → waits_cost ws < m → IsBelow m (resumes e ws)
resumes_below m (falls r) [] h = tt
resumes_below m (falls r) (w ∷ ws) h = fallen_below m w.wanted w.name w.body ws r h
resumes_below m (returns v r) [] h = tt
resumes_below m (returns v r) (w ∷ ws) h = returned_below m w.wanted v w.body ws r h
resumes_below m (accepts r) ws h = tt
resumes_below m rejects ws h = tt
resumes_below m (fails f) ws h = tt

moves_below : (a : Act) (b : Body) (ws : List Wait) → ActBelow (costs b.before) (todos_cost (costs b.before) b.tasks) a → IsBelow (all_cost b ws) (moves a b ws)
moves_below (on ts vs r) b ws h = omega arith
moves_below (wants n ts vs r) b ws h = given_below (all_cost b ws) (find_named b.params n) n (at b ts vs) ws r (omega arith)
moves_below (calls n w xs ts vs r) b ws h =
    enters_below (all_cost b ws) (function_of b.before n) n w xs (at b ts vs) ws r (omega (arith, function_costs b.before n))
moves_below (done e) b ws h = resumes_below (all_cost b ws) e ws (omega arith)
moves_below (faulty f) b ws h = tt

-- a step makes what is left less
pub step_below : (env : Environment) (b : Body) (ws : List Wait) (r : Route) → IsBelow (all_cost b ws) (step env b ws r)
step_below env b ws r = moves_below (act env b.tasks b.values r) b ws (act_below (costs b.before) env b.tasks b.values r)
