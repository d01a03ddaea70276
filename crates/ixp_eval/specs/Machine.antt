-- A body run in steps: what is left to do as plain tasks over plain trees, and what one step of it comes to.
use Rattle.std.specs.Prelude.{ℕ, Bool, true, false, not, nat_lt, List, [], ◌∷◌, ◌++◌, Result, Ok, Err, if◌then◌else◌}
use Rattle.ixp_lang.specs.declared.route.Route.{Route}
use Rattle.ixp_lang.specs.declared.value.Value.{Value}
use Rattle.ixp_lang.specs.declared.value.Value.TheVariants as value
use Rattle.ixp_lang.specs.declared.expr.Op.{Op}
use Rattle.ixp_lang.specs.Attributes.{compares, truth, number, has_label, attribute_of, checked, with_next_hop, prepended, with_pair, with_triple, without_pairs, without_triples}
use Rattle.ixp_lang.specs.Faults.{Fault, pair_range}
use Rattle.ixp_lang.specs.Trees.{ExprTree, literal, named, attribute, call, roa_check, pair, triple, set_literal, negation, conjunction, disjunction, comparison, ExprTrees, exprs_end, exprs_more, StmtTree, block, if_then, case_of, return_value, accept, reject, call_statement, set_next_hop, prepend, add_pair, delete_pairs, add_triple, delete_triples, StmtTrees, stmts_end, stmts_more, ArmTrees, arms_end, arms_more}
use Rattle.ixp_lang.specs.Meaning.{Environment, End, falls, returns, accepts, rejects, roas_named}
use Rattle.ixp_eval.specs.declared.tasks.Change.{Change}
use Rattle.ixp_eval.specs.declared.tasks.Change.TheVariants as change

-- an operator, whose operands lie on the stack of values, the last one on top
pub data Operation : Type 0 where
  negates : Operation
  pairs : Operation
  triples : Operation
  relates : Op → Operation
  checks : List ℕ → Operation

-- a task; a call has its name, whether its value is wanted, the arguments that are left and the values of the
-- others
pub data Todo : Type 0 where
  eval : ExprTree → Todo
  run : StmtTrees → Todo
  name : List ℕ → Todo
  apply : Operation → Todo
  every : ExprTrees → Todo
  every_after : ExprTrees → Todo
  any : ExprTrees → Todo
  any_after : ExprTrees → Todo
  choose : StmtTrees → StmtTrees → Todo
  select : ArmTrees → StmtTrees → Todo
  calling : List ℕ → Bool → ExprTrees → List Value → Todo
  calling_after : List ℕ → Bool → ExprTrees → List Value → Todo
  changing : Change → Todo
  returning : Todo
  accepting : Todo
  rejecting : Todo

-- what a step inside a body comes to: it goes on, wants the value of a name, calls, ends, or fails
pub data Act : Type 0 where
  on : List Todo → List Value → Route → Act
  wants : List ℕ → List Todo → List Value → Route → Act
  calls : List ℕ → Bool → List Value → List Todo → List Value → Route → Act
  done : End → Act
  faulty : Fault → Act

-- the stack of values; an empty one has false on top
abbrev pub top : List Value → Value
top [] = value.Bool false
top (v ∷ vs) = v

abbrev pub below : List Value → List Value
below [] = []
below (v ∷ vs) = vs

abbrev pub paired : ℕ → ℕ → List Value → Result (List Value) Fault
paired a b vs = if nat_lt 65535 a then Err (pair_range a)
    else (if nat_lt 65535 b then Err (pair_range b) else Ok (value.Pair a b ∷ vs))

-- the stack after an operator
abbrev pub applied : Environment → Operation → List Value → Result (List Value) Fault
applied env negates vs = Ok (value.Bool (not (truth (top vs))) ∷ below vs)
applied env pairs vs = paired (number (top (below vs))) (number (top vs)) (below (below vs))
applied env triples vs =
    Ok (value.Triple (number (top (below (below vs)))) (number (top (below vs))) (number (top vs))
    ∷ below (below (below vs)))
applied env (relates o) vs = Ok (value.Bool (compares o (top (below vs)) (top vs)) ∷ below (below vs))
applied env (checks t) vs = Ok (checked (roas_named env.roas t) (top (below vs)) (top vs) ∷ below (below vs))

-- the route after a change
abbrev pub changed : Change → Value → Route → Route
changed change.NextHop v r = with_next_hop v r
changed change.Prepend v r = prepended v r
changed change.AddPair v r = with_pair v r
changed change.DeletePairs v r = without_pairs v r
changed change.AddTriple v r = with_triple v r
changed change.DeleteTriples v r = without_triples v r

-- the first step of an expression
abbrev pub begun : Environment → ExprTree → List Todo → List Value → Route → Act
begun env (literal v) ts vs r = on ts (v ∷ vs) r
begun env (named n) ts vs r = on (name n ∷ ts) vs r
begun env (attribute a) ts vs r = on ts (attribute_of env.from a r ∷ vs) r
begun env (call n es) ts vs r = on (calling n true es [] ∷ ts) vs r
begun env (roa_check t e f) ts vs r = on (eval e ∷ eval f ∷ apply (checks t) ∷ ts) vs r
begun env (pair e f) ts vs r = on (eval e ∷ eval f ∷ apply pairs ∷ ts) vs r
begun env (triple e f g) ts vs r = on (eval e ∷ eval f ∷ eval g ∷ apply triples ∷ ts) vs r
begun env (set_literal s) ts vs r = on ts (value.Set s ∷ vs) r
begun env (negation e) ts vs r = on (eval e ∷ apply negates ∷ ts) vs r
begun env (conjunction es) ts vs r = on (every es ∷ ts) vs r
begun env (disjunction es) ts vs r = on (any es ∷ ts) vs r
begun env (comparison o e f) ts vs r = on (eval e ∷ eval f ∷ apply (relates o) ∷ ts) vs r

-- the tasks of a statement, before others
abbrev pub begun_stmt : StmtTree → List Todo → List Todo
begun_stmt (block ss) ts = run ss ∷ ts
begun_stmt (if_then e ss tt) ts = eval e ∷ choose ss tt ∷ ts
begun_stmt (case_of e arms ss) ts = eval e ∷ select arms ss ∷ ts
begun_stmt (return_value e) ts = eval e ∷ returning ∷ ts
begun_stmt accept ts = accepting ∷ ts
begun_stmt reject ts = rejecting ∷ ts
begun_stmt (call_statement n es) ts = calling n false es [] ∷ ts
begun_stmt (set_next_hop e) ts = eval e ∷ changing change.NextHop ∷ ts
begun_stmt (prepend e) ts = eval e ∷ changing change.Prepend ∷ ts
begun_stmt (add_pair e) ts = eval e ∷ changing change.AddPair ∷ ts
begun_stmt (delete_pairs e) ts = eval e ∷ changing change.DeletePairs ∷ ts
begun_stmt (add_triple e) ts = eval e ∷ changing change.AddTriple ∷ ts
begun_stmt (delete_triples e) ts = eval e ∷ changing change.DeleteTriples ∷ ts

-- the tasks of statements
abbrev pub ran : StmtTrees → List Todo → List Todo
ran stmts_end ts = ts
ran (stmts_more s ss) ts = begun_stmt s (run ss ∷ ts)

-- `&&` and `||` of the parts that are left, and where the value of the part before them lies on top
abbrev pub every_of : ExprTrees → List Todo → List Value → List Todo × List Value
every_of exprs_end ts vs = (ts, value.Bool true ∷ vs)
every_of (exprs_more e es) ts vs = (eval e ∷ every_after es ∷ ts, vs)

abbrev pub any_of : ExprTrees → List Todo → List Value → List Todo × List Value
any_of exprs_end ts vs = (ts, value.Bool false ∷ vs)
any_of (exprs_more e es) ts vs = (eval e ∷ any_after es ∷ ts, vs)

abbrev pub every_goes : Bool → ExprTrees → List Todo → List Value → List Todo × List Value
every_goes true es ts vs = (every es ∷ ts, vs)
every_goes false es ts vs = (ts, value.Bool false ∷ vs)

abbrev pub any_goes : Bool → ExprTrees → List Todo → List Value → List Todo × List Value
any_goes true es ts vs = (ts, value.Bool true ∷ vs)
any_goes false es ts vs = (any es ∷ ts, vs)

-- the statements of the first arm that has the value, else the last ones
abbrev pub chosen : ArmTrees → StmtTrees → Value → StmtTrees
chosen arms_end ss v = ss
chosen (arms_more ls tt arms) ss v = if has_label ls v then tt else chosen arms ss v

-- a call goes on with its next argument, or is made
abbrev pub called : List ℕ → Bool → ExprTrees → List Value → List Todo → List Value → Route → Act
called n w exprs_end args ts vs r = calls n w args ts vs r
called n w (exprs_more e es) args ts vs r = on (eval e ∷ calling_after n w es args ∷ ts) vs r

abbrev pub acted : Result (List Value) Fault → List Todo → Route → Act
acted (Ok vs) ts r = on ts vs r
acted (Err f) ts r = faulty f

-- on with these stacks
abbrev pub onto : List Todo × List Value → Route → Act
onto p r = on p.0 p.1 r

-- one step inside a body
abbrev pub act : Environment → List Todo → List Value → Route → Act
act env [] vs r = done (falls r)
act env (eval e ∷ ts) vs r = begun env e ts vs r
act env (run ss ∷ ts) vs r = on (ran ss ts) vs r
act env (name n ∷ ts) vs r = wants n ts vs r
act env (apply o ∷ ts) vs r = acted (applied env o vs) ts r
act env (every es ∷ ts) vs r = onto (every_of es ts vs) r
act env (every_after es ∷ ts) vs r = onto (every_goes (truth (top vs)) es ts (below vs)) r
act env (any es ∷ ts) vs r = onto (any_of es ts vs) r
act env (any_after es ∷ ts) vs r = onto (any_goes (truth (top vs)) es ts (below vs)) r
act env (choose ss tt ∷ ts) vs r = on (run (if truth (top vs) then ss else tt) ∷ ts) (below vs) r
act env (select arms ss ∷ ts) vs r = on (run (chosen arms ss (top vs)) ∷ ts) (below vs) r
act env (calling n w es args ∷ ts) vs r = called n w es args ts vs r
act env (calling_after n w es args ∷ ts) vs r = on (calling n w es (args ++ top vs ∷ []) ∷ ts) (below vs) r
act env (changing c ∷ ts) vs r = on ts (below vs) (changed c (top vs) r)
act env (returning ∷ ts) vs r = done (returns (top vs) r)
act env (accepting ∷ ts) vs r = done (accepts r)
act env (rejecting ∷ ts) vs r = done rejects
