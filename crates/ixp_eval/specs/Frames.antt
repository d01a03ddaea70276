-- Bodies that run, and those that wait for a call: one step of all of them.
use Rattle.std.specs.Prelude.{ℕ, Bool, true, false, List, [], ◌∷◌, Option, Some, None, Result, Ok, Err, if◌then◌else◌}
use Rattle.ixp_lang.specs.declared.route.Route.{Route}
use Rattle.ixp_lang.specs.declared.value.Value.{Value}
use Rattle.ixp_lang.specs.declared.item.Ty.{Ty}
use Rattle.ixp_lang.specs.Faults.{Fault, no_return, no_filter}
use Rattle.ixp_lang.specs.Trees.{ExprTree, StmtTrees, ItemTree, router_id_item, table_item, define_item, function_item, filter_item, device_item, pipe_item, bgp_item}
use Rattle.ixp_lang.specs.Meaning.{Environment, End, falls, returns, accepts, rejects, fails, Params, same_name, find_named, bind, function_of}
use Rattle.ixp_eval.specs.Machine.{Todo, eval, run, returning, Act, on, wants, calls, done, faulty, act}

-- a body: the items before it, the last of them first, its parameters, its tasks and its values
pub record Body : Type 0 where
  pub before : List ItemTree
  pub params : Params
  pub tasks : List Todo
  pub values : List Value

-- a body that waits for the function of the name, and maybe for its value
pub record Wait : Type 0 where
  pub name : List ℕ
  pub wanted : Bool
  pub body : Body

-- what a step comes to
pub data Next : Type 0 where
  goes : Body → List Wait → Route → Next
  stops : End → Next
  breaks : Fault → Next

-- the defined value of the name, with the items before it; the items are the last one first
abbrev pub define_of : List ItemTree → List ℕ → Option (List ItemTree × ExprTree)
define_of [] n = None
define_of (define_item m e ∷ is) n = if same_name m n then Some (is, e) else define_of is n
define_of (router_id_item a ∷ is) n = define_of is n
define_of (table_item t m ∷ is) n = define_of is n
define_of (function_item m qs ss ∷ is) n = define_of is n
define_of (filter_item m ss ∷ is) n = define_of is n
define_of (device_item m ∷ is) n = define_of is n
define_of (pipe_item p ∷ is) n = define_of is n
define_of (bgp_item b ∷ is) n = define_of is n

-- a body about to run these statements, and one about to return a value
abbrev pub begins : List ItemTree → Params → StmtTrees → Body
begins is ps ss = record { before = is; params = ps; tasks = run ss ∷ []; values = [] }

abbrev pub begins_value : List ItemTree → ExprTree → Body
begins_value is e = record { before = is; params = []; tasks = eval e ∷ returning ∷ []; values = [] }

abbrev pub with_value : Value → Body → Body
with_value v b = record { before = b.before; params = b.params; tasks = b.tasks; values = v ∷ b.values }

abbrev pub waits_for : List ℕ → Bool → Body → Wait
waits_for n w b = record { name = n; wanted = w; body = b }

-- the value of a name is wanted
abbrev pub looks_defined : Option (List ItemTree × ExprTree) → List ℕ → Body → List Wait
    → Result (Body × List Wait) Fault
looks_defined None n b ws = Err (no_filter n)
looks_defined (Some d) n b ws = Ok (begins_value d.0 d.1, waits_for n true b ∷ ws)

abbrev pub looks_given : Option Value → List ℕ → Body → List Wait → Result (Body × List Wait) Fault
looks_given (Some v) n b ws = Ok (with_value v b, ws)
looks_given None n b ws = looks_defined (define_of b.before n) n b ws

abbrev pub looks : List ℕ → Body → List Wait → Result (Body × List Wait) Fault
looks n b ws = looks_given (find_named b.params n) n b ws

-- a function is called
abbrev pub enters : Option (List ItemTree × List (Ty × List ℕ) × StmtTrees) → List ℕ → Bool → List Value
    → Body → List Wait → Result (Body × List Wait) Fault
enters None n w args b ws = Err (no_filter n)
enters (Some f) n w args b ws = Ok (begins f.0 (bind f.1 args) f.2, waits_for n w b ∷ ws)

abbrev pub next_of : Result (Body × List Wait) Fault → Route → Next
next_of (Ok p) r = goes p.0 p.1 r
next_of (Err f) r = breaks f

-- a body ended
abbrev pub fallen : Bool → List ℕ → Body → List Wait → Route → Next
fallen true n b ws r = breaks (no_return n)
fallen false n b ws r = goes b ws r

abbrev pub returned : Bool → Value → Body → List Wait → Route → Next
returned true v b ws r = goes (with_value v b) ws r
returned false v b ws r = goes b ws r

abbrev pub resumes : End → List Wait → Next
resumes (falls r) [] = stops (falls r)
resumes (falls r) (w ∷ ws) = fallen w.wanted w.name w.body ws r
resumes (returns v r) [] = stops (returns v r)
resumes (returns v r) (w ∷ ws) = returned w.wanted v w.body ws r
resumes (accepts r) ws = stops (accepts r)
resumes rejects ws = stops rejects
resumes (fails f) ws = breaks f

-- the body with these tasks and values
abbrev pub at : Body → List Todo → List Value → Body
at b ts vs = record { before = b.before; params = b.params; tasks = ts; values = vs }

-- what a step inside the running body means for all
abbrev pub moves : Act → Body → List Wait → Next
moves (on ts vs r) b ws = goes (at b ts vs) ws r
moves (wants n ts vs r) b ws = next_of (looks n (at b ts vs) ws) r
moves (calls n w args ts vs r) b ws = next_of (enters (function_of b.before n) n w args (at b ts vs) ws) r
moves (done e) b ws = resumes e ws
moves (faulty f) b ws = breaks f

-- one step
abbrev pub step : Environment → Body → List Wait → Route → Next
step env b ws r = moves (act env b.tasks b.values r) b ws
