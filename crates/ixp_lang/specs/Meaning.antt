-- What filters mean (BIRD 2 User's Guide, chapter "Filters").
--
-- An expression is read from left to right with the route as it then is, since a function that it calls may
-- change the route; it gives its value and the route to what comes next. A statement gives the changed route
-- to the statement after it. `accept` and `reject` end the whole filter, from inside a function too; a fault
-- ends all. A name means what stands before it in the text: a call is the body of an earlier function.
use Rattle.std.specs.Prelude.{ℕ, Bool, true, false, not, ◌==◌, nat_lt, List, [], ◌∷◌, ◌++◌, Option, Some, None, Result, Ok, Err, if◌then◌else◌}
use Rattle.ixp_num.specs.declared.addr.Addr.{Addr}
use Rattle.ixp_num.specs.declared.roa.Roa.{Roa}
use Rattle.ixp_lang.specs.declared.route.Route.{Route}
use Rattle.ixp_lang.specs.declared.value.Value.{Value}
use Rattle.ixp_lang.specs.declared.value.Value.TheVariants as value
use Rattle.ixp_lang.specs.declared.item.Ty.{Ty}
use Rattle.ixp_lang.specs.declared.route.Verdict.{Verdict}
use Rattle.ixp_lang.specs.declared.route.Verdict.TheVariants.{Accept, Reject}
use Rattle.ixp_lang.specs.Attributes.{compares, truth, number, has_label, attribute_of, checked, with_next_hop, prepended, with_pair, with_triple, without_pairs, without_triples}
use Rattle.ixp_lang.specs.Faults.{Fault, pair_range, no_return, no_verdict, no_filter, CallFault, failed, ended}
use Rattle.ixp_lang.specs.Trees.{ExprTree, literal, named, attribute, call, roa_check, pair, triple, set_literal, negation, conjunction, disjunction, comparison, ExprTrees, exprs_end, exprs_more, StmtTree, block, if_then, case_of, return_value, accept, reject, call_statement, set_next_hop, prepend, add_pair, delete_pairs, add_triple, delete_triples, StmtTrees, stmts_end, stmts_more, ArmTrees, arms_end, arms_more, ItemTree, router_id_item, table_item, define_item, function_item, filter_item, device_item, pipe_item, bgp_item}

-- two names are the same bytes
abbrev pub same_name : List ℕ → List ℕ → Bool
same_name [] [] = true
same_name (a ∷ m) (b ∷ n) = if a == b then same_name m n else false
same_name [] (b ∷ n) = false
same_name (a ∷ m) [] = false

-- how a body ends: at its last statement, by `return`, with a verdict of the whole filter, or in a fault
pub data End : Type 0 where
  falls : Route → End
  returns : Value → Route → End
  accepts : Route → End
  rejects : End
  fails : Fault → End

-- what a filter sees beside the route: the address of the session's neighbour, and the ROA tables by name
pub record Environment : Type 0 where
  pub from : Addr
  pub roas : List (List ℕ × List Roa)

-- what the items before a body mean: a defined name, and a function called with values
pub record Known : Type 0 where
  pub value : List ℕ → Route → End
  pub call : List ℕ → List Value → Route → End

-- the parameters of a body and their values
abbrev pub Params : Type 0
Params = List (List ℕ × Value)

-- the first of the name, or none
abbrev pub find_named : {A : Type 0} → List (List ℕ × A) → List ℕ → Option A
find_named [] n = None
find_named (x ∷ xs) n = if same_name x.0 n then Some x.1 else find_named xs n

-- the ROAs of a table; a table that isn't there has none
abbrev pub roas_or_none : Option (List Roa) → List Roa
roas_or_none None = []
roas_or_none (Some roas) = roas

abbrev pub roas_named : List (List ℕ × List Roa) → List ℕ → List Roa
roas_named tables n = roas_or_none (find_named tables n)

-- parameters get the arguments in order
abbrev pub bind : List (Ty × List ℕ) → List Value → Params
bind [] vs = []
bind (p ∷ ps) [] = []
bind (p ∷ ps) (v ∷ vs) = (p.1, v) ∷ bind ps vs

-- the body of the name was run for its value
abbrev pub for_value : List ℕ → End → (Value → Route → End) → End
for_value n (falls r) next = fails (no_return n)
for_value n (returns v r) next = next v r
for_value n (accepts r) next = accepts r
for_value n rejects next = rejects
for_value n (fails f) next = fails f

-- a body was run as a statement; what it returns is let go
abbrev pub for_effect : End → (Route → End) → End
for_effect (falls r) next = next r
for_effect (returns v r) next = next r
for_effect (accepts r) next = accepts r
for_effect rejects next = rejects
for_effect (fails f) next = fails f

abbrev pub given_or : Option Value → (Value → End) → End → End
given_or (Some v) next other = next v
given_or None next other = other

-- a name is a parameter, or else a defined value, which is evaluated where it is used
abbrev pub value_named : Known → Params → List ℕ → Route → (Value → Route → End) → End
value_named k ps n r next = given_or (find_named ps n) (λ v. next v r) (for_value n (k.value n r) next)

-- a pair has parts of 16 bits (RFC 1997); the first part that hasn't is the fault
abbrev pub pair_of : ℕ → ℕ → (Value → End) → End
pair_of a b next = if nat_lt 65535 a then fails (pair_range a)
    else (if nat_lt 65535 b then fails (pair_range b) else next (value.Pair a b))

module _ (env : Environment) (k : Known) (ps : Params) where
  abbrev mutual
    -- the value of an expression, given to what comes next
    pub means : ExprTree → Route → (Value → Route → End) → End
    means (literal v) r next = next v r
    means (named n) r next = value_named k ps n r next
    means (attribute a) r next = next (attribute_of env.from a r) r
    means (call n es) r next = means_all es [] r (λ vs r. for_value n (k.call n vs r) next)
    means (roa_check t e f) r next =
        means e r (λ v r. means f r (λ w r. next (checked (roas_named env.roas t) v w) r))
    means (pair e f) r next =
        means e r (λ v r. means f r (λ w r. pair_of (number v) (number w) (λ x. next x r)))
    means (triple e f g) r next =
        means e r (λ u r. means f r (λ v r. means g r
        (λ w r. next (value.Triple (number u) (number v) (number w)) r)))
    means (set_literal s) r next = next (value.Set s) r
    means (negation e) r next = means e r (λ v r. next (value.Bool (not (truth v))) r)
    means (conjunction es) r next = means_each es r next
    means (disjunction es) r next = means_some es r next
    means (comparison o e f) r next =
        means e r (λ v r. means f r (λ w r. next (value.Bool (compares o v w)) r))

    -- the values of a call's arguments, after those that are known
    pub means_all : ExprTrees → List Value → Route → (List Value → Route → End) → End
    means_all exprs_end vs r next = next vs r
    means_all (exprs_more e es) vs r next = means e r (λ v r. means_all es (vs ++ v ∷ []) r next)

    -- `&&` stops at the first false
    pub means_each : ExprTrees → Route → (Value → Route → End) → End
    means_each exprs_end r next = next (value.Bool true) r
    means_each (exprs_more e es) r next =
        means e r (λ v r. if truth v then means_each es r next else next (value.Bool false) r)

    -- `||` stops at the first true
    pub means_some : ExprTrees → Route → (Value → Route → End) → End
    means_some exprs_end r next = next (value.Bool false) r
    means_some (exprs_more e es) r next =
        means e r (λ v r. if truth v then next (value.Bool true) r else means_some es r next)

  abbrev mutual
    -- a statement, and then what comes next
    pub runs : StmtTree → Route → (Route → End) → End
    runs (block ss) r next = runs_all ss r next
    runs (if_then e ss ts) r next =
        means e r (λ v r. if truth v then runs_all ss r next else runs_all ts r next)
    runs (case_of e arms ss) r next = means e r (λ v r. runs_arms arms v r next (λ r. runs_all ss r next))
    runs (return_value e) r next = means e r (λ v r. returns v r)
    runs accept r next = accepts r
    runs reject r next = rejects
    runs (call_statement n es) r next = means_all es [] r (λ vs r. for_effect (k.call n vs r) next)
    runs (set_next_hop e) r next = means e r (λ v r. next (with_next_hop v r))
    runs (prepend e) r next = means e r (λ v r. next (prepended v r))
    runs (add_pair e) r next = means e r (λ v r. next (with_pair v r))
    runs (delete_pairs e) r next = means e r (λ v r. next (without_pairs v r))
    runs (add_triple e) r next = means e r (λ v r. next (with_triple v r))
    runs (delete_triples e) r next = means e r (λ v r. next (without_triples v r))

    -- statements in order
    pub runs_all : StmtTrees → Route → (Route → End) → End
    runs_all stmts_end r next = next r
    runs_all (stmts_more s ss) r next = runs s r (λ r. runs_all ss r next)

    -- the first arm that has the value and no other, else the last one
    pub runs_arms : ArmTrees → Value → Route → (Route → End) → (Route → End) → End
    runs_arms arms_end v r next other = other r
    runs_arms (arms_more ls ss arms) v r next other =
        if has_label ls v then runs_all ss r next else runs_arms arms v r next other

-- how a body ends that is run on a route
abbrev pub body_of : Environment → Known → Params → StmtTrees → Route → End
body_of env k ps ss r = runs_all env k ps ss r falls

-- what is known after one more item
abbrev pub after : Environment → ItemTree → Known → Known
after env (define_item n e) k =
    record { value = λ m r. if same_name m n then means env k [] e r returns else k.value m r; call = k.call }
after env (function_item n qs ss) k = record {
  value = k.value;
  call = λ m vs r. if same_name m n then body_of env k (bind qs vs) ss r else k.call m vs r;
}
after env (router_id_item a) k = k
after env (table_item t n) k = k
after env (filter_item n ss) k = k
after env (device_item n) k = k
after env (pipe_item p) k = k
after env (bgp_item b) k = k

-- what is known after these items, the last of them first
abbrev pub known : Environment → List ItemTree → Known
known env [] = record { value = λ n r. fails (no_filter n); call = λ n vs r. fails (no_filter n) }
known env (i ∷ is) = after env i (known env is)

-- the filter of the name, with the items before it, the last of them first
abbrev pub filter_of : List ItemTree → List ℕ → Option (List ItemTree × StmtTrees)
filter_of [] n = None
filter_of (filter_item m ss ∷ is) n = if same_name m n then Some (is, ss) else filter_of is n
filter_of (router_id_item a ∷ is) n = filter_of is n
filter_of (table_item t m ∷ is) n = filter_of is n
filter_of (define_item m e ∷ is) n = filter_of is n
filter_of (function_item m qs ss ∷ is) n = filter_of is n
filter_of (device_item m ∷ is) n = filter_of is n
filter_of (pipe_item p ∷ is) n = filter_of is n
filter_of (bgp_item b ∷ is) n = filter_of is n

-- the function of the name, likewise, with its parameters
abbrev pub function_of : List ItemTree → List ℕ → Option (List ItemTree × List (Ty × List ℕ) × StmtTrees)
function_of [] n = None
function_of (function_item m qs ss ∷ is) n = if same_name m n then Some (is, qs, ss) else function_of is n
function_of (router_id_item a ∷ is) n = function_of is n
function_of (table_item t m ∷ is) n = function_of is n
function_of (define_item m e ∷ is) n = function_of is n
function_of (filter_item m ss ∷ is) n = function_of is n
function_of (device_item m ∷ is) n = function_of is n
function_of (pipe_item p ∷ is) n = function_of is n
function_of (bgp_item b ∷ is) n = function_of is n

-- a filter must end in a verdict
abbrev pub must_end : List ℕ → End → Result Verdict Fault
must_end n (falls r) = Err (no_verdict n)
must_end n (returns v r) = Err (no_verdict n)
must_end n (accepts r) = Ok (Accept r)
must_end n rejects = Ok Reject
must_end n (fails f) = Err f

abbrev pub filter_found : Environment → List ℕ → Option (List ItemTree × StmtTrees) → Route
    → Result Verdict Fault
filter_found env n None r = Err (no_filter n)
filter_found env n (Some f) r = must_end n (body_of env (known env f.0) [] f.1 r)

-- what the filter of the name makes of a route; the items are the last one first
abbrev pub filter_end : Environment → List ItemTree → List ℕ → Route → Result Verdict Fault
filter_end env is n r = filter_found env n (filter_of is n) r

-- a function that is asked for its value must return one
abbrev pub must_return : List ℕ → End → Result Value CallFault
must_return n (falls r) = Err (failed (no_return n))
must_return n (returns v r) = Ok v
must_return n (accepts r) = Err ended
must_return n rejects = Err ended
must_return n (fails f) = Err (failed f)

abbrev pub function_found : Environment → List ℕ → Option (List ItemTree × List (Ty × List ℕ) × StmtTrees) → ℕ
    → Route → Result Value CallFault
function_found env n None m r = Err (failed (no_filter n))
function_found env n (Some f) m r =
    must_return n (body_of env (known env f.0) (bind f.1 (value.Int m ∷ [])) f.2 r)

-- what the function of the name gives for one number; the items are the last one first
abbrev pub function_end : Environment → List ItemTree → List ℕ → ℕ → Route → Result Value CallFault
function_end env is n m r = function_found env n (function_of is n) m r

-- For a reader who knows the guide: what an expression gives, and how statements go on, where these items
-- stand before.

abbrev pub Means : Environment → List ItemTree → Params → ExprTree → Route → End
Means env is ps e r = means env (known env is) ps e r returns

abbrev pub Runs : Environment → List ItemTree → Params → StmtTrees → Route → End
Runs env is ps ss r = body_of env (known env is) ps ss r
