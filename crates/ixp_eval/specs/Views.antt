-- The plain tasks and bodies of the program's own ones.
use Rattle.std.specs.Prelude.{◌≡◌, ℕ, List, map, reverse, Option, Some, None, Result, Ok, Err}
use Rattle.ixp_lang.specs.declared.route.Route.{Route}
use Rattle.ixp_lang.specs.declared.value.Value.{Value}
use Rattle.ixp_lang.specs.declared.value.SetLit.{SetLit}
use Rattle.ixp_lang.specs.declared.value.Value.TheVariants as value
use Rattle.ixp_lang.specs.declared.item.Ty.{Ty}
use Rattle.ixp_lang.specs.Trees.{exprs, ExprTree, StmtTrees, stmts, ItemTree}
use Rattle.ixp_lang.specs.Views.{expr_view, exprs_view, stmts_view, arms_view}
use Rattle.ixp_lang.specs.Meaning.{Environment, End, falls, returns, accepts, rejects, bind}
use Rattle.ixp_eval.specs.declared.env.Env.{Env}
use Rattle.ixp_eval.specs.declared.val.Val.{Val}
use Rattle.ixp_eval.specs.declared.val.Val.TheVariants as val
use Rattle.ixp_eval.specs.declared.tasks.Operator.{Operator}
use Rattle.ixp_eval.specs.declared.tasks.Operator.TheVariants as operator
use Rattle.ixp_eval.specs.declared.tasks.Task.{Task}
use Rattle.ixp_eval.specs.declared.tasks.Task.TheVariants as task
use Rattle.ixp_eval.specs.declared.tasks.How.{How}
use Rattle.ixp_eval.specs.declared.tasks.How.TheVariants as how
use Rattle.ixp_eval.specs.declared.tasks.Act.{Act}
use Rattle.ixp_eval.specs.declared.tasks.Act.TheVariants as act
use Rattle.ixp_eval.specs.declared.frames.Frame.{Frame}
use Rattle.ixp_eval.specs.declared.frames.Waiting.{Waiting}
use Rattle.ixp_eval.specs.declared.find.FoundDefine.{FoundDefine}
use Rattle.ixp_eval.specs.declared.find.FoundFilter.{FoundFilter}
use Rattle.ixp_eval.specs.declared.find.FoundFunction.{FoundFunction}
use Rattle.ixp_eval.specs.declared.search.Before.{Before}
use Rattle.ixp_eval.specs.Indexed.{items_before}
use Rattle.ixp_eval.specs.Machine as machine
use Rattle.ixp_eval.specs.Machine.{Operation, negates, pairs, triples, relates, checks, Todo, eval, run, name, apply, every, every_after, any, any_after, choose, select, calling, calling_after, changing, returning, accepting, rejecting, on, wants, calls, done}
use Rattle.ixp_eval.specs.declared.fault.EvalFault.{EvalFault}
use Rattle.ixp_eval.specs.Answers.{Fails}
use Rattle.ixp_eval.specs.Frames.{Body, Wait, Next, goes, stops, breaks}

abbrev pub environment_of : Env → Environment
environment_of e = record { from = e.from; roas = e.roas.now }

abbrev pub val_of : Val → Value
val_of (val.Int n) = value.Int n
val_of (val.Bool b) = value.Bool b
val_of (val.Ip a) = value.Ip a
val_of (val.Net p) = value.Net p
val_of (val.Pair a b) = value.Pair a b
val_of (val.Triple a b c) = value.Triple a b c
val_of (val.Roa s) = value.Roa s
val_of (val.Set s) = value.Set s.now
val_of (val.Own s) = value.Set s

-- the set that a value is
abbrev pub set_in : Value → Option SetLit
set_in (value.Set s) = Some s
set_in _ = None

abbrev pub vals : List Val → List Value
vals = map val_of

abbrev pub operation_of : Operator → Operation
operation_of operator.Not = negates
operation_of operator.Pair = pairs
operation_of operator.Triple = triples
operation_of (operator.Compare o) = relates o
operation_of (operator.RoaCheck n) = checks n.now

abbrev pub todo_of : Task → Todo
todo_of (task.Eval e) = eval (expr_view e.now)
todo_of (task.Run ss) = run (stmts (stmts_view ss.now))
todo_of (task.Name n) = name n.now
todo_of (task.Apply o) = apply (operation_of o)
todo_of (task.Every es) = every (exprs (exprs_view es.now))
todo_of (task.EveryAfter es) = every_after (exprs (exprs_view es.now))
todo_of (task.Any es) = any (exprs (exprs_view es.now))
todo_of (task.AnyAfter es) = any_after (exprs (exprs_view es.now))
todo_of (task.Choose ss ts) = choose (stmts (stmts_view ss.now)) (stmts (stmts_view ts.now))
todo_of (task.Select arms ss) = select (arms_view arms.now) (stmts (stmts_view ss.now))
todo_of (task.Call c es args) = calling c.name.now c.wanted (exprs (exprs_view es.now)) (vals args)
todo_of (task.CallAfter c es args) = calling_after c.name.now c.wanted (exprs (exprs_view es.now)) (vals args)
todo_of (task.Change c) = changing c
todo_of task.Return = returning
todo_of task.Accept = accepting
todo_of task.Reject = rejecting

abbrev pub todos : List Task → List Todo
todos = map todo_of

-- how a body ended, with the route
abbrev pub end_of : How → Route → End
end_of how.Falls r = falls r
end_of (how.Returns v) r = returns (val_of v) r
end_of how.Accepts r = accepts r
end_of how.Rejects r = rejects

abbrev pub act_of : Act → List Todo → List Value → Route → machine.Act
act_of act.On ts vs r = on ts vs r
act_of (act.Wants n) ts vs r = wants n.now ts vs r
act_of (act.Calls c args) ts vs r = calls c.name.now c.wanted (vals args) ts vs r
act_of (act.Done h) ts vs r = done (end_of h r)

-- the items before a place, the last one first
abbrev pub backwards : Before → List ItemTree
backwards b = reverse (items_before b)

abbrev pub function_view : FoundFunction → List ItemTree × List (Ty × List ℕ) × StmtTrees
function_view f = (backwards f.before, f.params.now, stmts (stmts_view f.body.now))

abbrev pub define_view : FoundDefine → List ItemTree × ExprTree
define_view d = (backwards d.before, expr_view d.value.now)

abbrev pub filter_view : FoundFilter → List ItemTree × StmtTrees
filter_view f = (backwards f.before, stmts (stmts_view f.body.now))

abbrev pub body_view : Frame → Body
body_view f = record {
  before = backwards f.before;
  params = bind f.params.now (vals f.args);
  tasks = todos f.tasks;
  values = vals f.values;
}

abbrev pub wait_view : Waiting → Wait
wait_view w = record { name = w.callee.name.now; wanted = w.callee.wanted; body = body_view w.frame }

abbrev pub waits : List Waiting → List Wait
waits = map wait_view

-- one step was this one: it goes on, ends or fails so
abbrev pub Steps : Result (Option How) EvalFault → Route → Body → List Wait → Next → Type 0
Steps (Ok None) r b ws next = goes b ws r ≡ next
Steps (Ok (Some h)) r b ws next = stops (end_of h r) ≡ next
Steps (Err f) r b ws next = Fails breaks next f
