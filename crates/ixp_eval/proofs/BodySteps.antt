-- A step inside a body keeps how the body ends.
use Rattle.std.specs.Prelude.{◌≡◌, ℕ, Bool, true, false, nat_lt, List, [], ◌∷◌, Ok, Err, if◌then◌else◌, refl}
use Rattle.ixp_lang.specs.declared.route.Route.{Route}
use Rattle.ixp_lang.specs.declared.value.Value.{Value}
use Rattle.ixp_lang.specs.declared.value.Value.TheVariants as value
use Rattle.ixp_lang.specs.Attributes.{truth, has_label, number}
use Rattle.ixp_lang.specs.Faults.{pair_range}
use Rattle.ixp_lang.specs.Trees.{ExprTree, literal, named, attribute, call, roa_check, pair, triple, set_literal, negation, conjunction, disjunction, comparison, ExprTrees, exprs_end, exprs_more, StmtTree, block, if_then, case_of, return_value, accept, reject, call_statement, set_next_hop, prepend, add_pair, delete_pairs, add_triple, delete_triples, StmtTrees, stmts_end, stmts_more, ArmTrees, arms_end, arms_more}
use Rattle.ixp_lang.specs.Meaning.{Environment, End, fails, Known, Params, means_each, means_some, runs, runs_all, runs_arms}
use Rattle.ixp_eval.specs.Machine.{Operation, negates, pairs, triples, relates, checks, Todo, eval, run, name, apply, every, every_after, any, any_after, choose, select, calling, calling_after, changing, returning, accepting, rejecting, act, begun, begun_stmt, ran, every_of, any_of, every_goes, any_goes, chosen, called, acted, onto, applied, top, below}
use Rattle.ixp_eval.specs.Outcomes.{todo_out, act_out, applied_out}

-- a function of a choice
pub if_by : {A B : Type 0} (f : A → B) (b : Bool) (x y : A) (z : B) → f y ≡ z → f (if b then x else y) ≡ (if b then f x else z)
if_by f true x y z e = refl
if_by f false x y z e = e

module _ (env : Environment) (k : Known) (ps : Params) where
  begun_law : (e : ExprTree) (ts : List Todo) (vs : List Value) (r : Route) → act_out env k ps (begun env e ts vs r) ≡ todo_out env k ps (eval e ∷ ts) vs r
  begun_law (literal v) ts vs r = refl
  begun_law (named n) ts vs r = refl
  begun_law (attribute a) ts vs r = refl
  begun_law (call n es) ts vs r = refl
  begun_law (roa_check t e f) ts vs r = refl
  begun_law (pair e f) ts vs r = refl
  begun_law (triple e f g) ts vs r = refl
  begun_law (set_literal s) ts vs r = refl
  begun_law (negation e) ts vs r = refl
  begun_law (conjunction es) ts vs r = refl
  begun_law (disjunction es) ts vs r = refl
  begun_law (comparison o e f) ts vs r = refl

  begun_stmt_law : (s : StmtTree) (ts : List Todo) (vs : List Value) (r : Route) → todo_out env k ps (begun_stmt s ts) vs r ≡ runs env k ps s r (λ r. todo_out env k ps ts vs r)
  begun_stmt_law (block ss) ts vs r = refl
  begun_stmt_law (if_then e ss tt) ts vs r = refl
  begun_stmt_law (case_of e arms ss) ts vs r = refl
  begun_stmt_law (return_value e) ts vs r = refl
  begun_stmt_law accept ts vs r = refl
  begun_stmt_law reject ts vs r = refl
  begun_stmt_law (call_statement n es) ts vs r = refl
  begun_stmt_law (set_next_hop e) ts vs r = refl
  begun_stmt_law (prepend e) ts vs r = refl
  begun_stmt_law (add_pair e) ts vs r = refl
  begun_stmt_law (delete_pairs e) ts vs r = refl
  begun_stmt_law (add_triple e) ts vs r = refl
  begun_stmt_law (delete_triples e) ts vs r = refl

  ran_law : (ss : StmtTrees) (ts : List Todo) (vs : List Value) (r : Route) → todo_out env k ps (ran ss ts) vs r ≡ todo_out env k ps (run ss ∷ ts) vs r
  ran_law stmts_end ts vs r = refl
  ran_law (stmts_more s ss) ts vs r = begun_stmt_law s (run ss ∷ ts) vs r

  paired_at : (b c : Bool) (m n : ℕ) (ts : List Todo) (vs : List Value) (r : Route) →
      act_out env k ps (acted (if b then Err (pair_range m) else (if c then Err (pair_range n) else Ok (value.Pair m n ∷ vs))) ts r)
      ≡ (if b then fails (pair_range m) else (if c then fails (pair_range n) else todo_out env k ps ts (value.Pair m n ∷ vs) r))
  paired_at true c m n ts vs r = refl
  paired_at false true m n ts vs r = refl
  paired_at false false m n ts vs r = refl

  applied_law : (o : Operation) (ts : List Todo) (vs : List Value) (r : Route) → act_out env k ps (acted (applied env o vs) ts r) ≡ applied_out env o vs (λ vs. todo_out env k ps ts vs r)
  applied_law negates ts vs r = refl
  applied_law pairs ts vs r =
      paired_at (nat_lt 65535 (number (top (below vs)))) (nat_lt 65535 (number (top vs))) (number (top (below vs))) (number (top vs)) ts (below (below vs)) r
  applied_law triples ts vs r = refl
  applied_law (relates o) ts vs r = refl
  applied_law (checks t) ts vs r = refl

  every_law : (es : ExprTrees) (ts : List Todo) (vs : List Value) (r : Route) → act_out env k ps (onto (every_of es ts vs) r) ≡ todo_out env k ps (every es ∷ ts) vs r
  every_law exprs_end ts vs r = refl
  every_law (exprs_more e es) ts vs r = refl

  any_law : (es : ExprTrees) (ts : List Todo) (vs : List Value) (r : Route) → act_out env k ps (onto (any_of es ts vs) r) ≡ todo_out env k ps (any es ∷ ts) vs r
  any_law exprs_end ts vs r = refl
  any_law (exprs_more e es) ts vs r = refl

  every_goes_law : (b : Bool) (es : ExprTrees) (ts : List Todo) (vs : List Value) (r : Route) → act_out env k ps (onto (every_goes b es ts vs) r)
      ≡ (if b then means_each env k ps es r (λ v r. todo_out env k ps ts (v ∷ vs) r) else todo_out env k ps ts (value.Bool false ∷ vs) r)
  every_goes_law true es ts vs r = refl
  every_goes_law false es ts vs r = refl

  any_goes_law : (b : Bool) (es : ExprTrees) (ts : List Todo) (vs : List Value) (r : Route) → act_out env k ps (onto (any_goes b es ts vs) r)
      ≡ (if b then todo_out env k ps ts (value.Bool true ∷ vs) r else means_some env k ps es r (λ v r. todo_out env k ps ts (v ∷ vs) r))
  any_goes_law true es ts vs r = refl
  any_goes_law false es ts vs r = refl

  chosen_law : (arms : ArmTrees) (ss : StmtTrees) (v : Value) (r : Route) (next : Route → End) → runs_all env k ps (chosen arms ss v) r next
      ≡ runs_arms env k ps arms v r next (λ r. runs_all env k ps ss r next)
  chosen_law arms_end ss v r next = refl
  chosen_law (arms_more ls tt arms) ss v r next =
      if_by (λ x. runs_all env k ps x r next) (has_label ls v) tt (chosen arms ss v) _ (chosen_law arms ss v r next)

  called_law : (n : List ℕ) (w : Bool) (es : ExprTrees) (xs : List Value) (ts : List Todo) (vs : List Value) (r : Route) →
      act_out env k ps (called n w es xs ts vs r) ≡ todo_out env k ps (calling n w es xs ∷ ts) vs r
  called_law n w exprs_end xs ts vs r = refl
  called_law n w (exprs_more e es) xs ts vs r = refl

  pub act_law : (ts : List Todo) (vs : List Value) (r : Route) → act_out env k ps (act env ts vs r) ≡ todo_out env k ps ts vs r
  act_law [] vs r = refl
  act_law (eval e ∷ ts) vs r = begun_law e ts vs r
  act_law (run ss ∷ ts) vs r = ran_law ss ts vs r
  act_law (name n ∷ ts) vs r = refl
  act_law (apply o ∷ ts) vs r = applied_law o ts vs r
  act_law (every es ∷ ts) vs r = every_law es ts vs r
  act_law (every_after es ∷ ts) vs r = every_goes_law (truth (top vs)) es ts (below vs) r
  act_law (any es ∷ ts) vs r = any_law es ts vs r
  act_law (any_after es ∷ ts) vs r = any_goes_law (truth (top vs)) es ts (below vs) r
  act_law (choose ss tt ∷ ts) vs r = if_by (λ x. runs_all env k ps x r (λ r. todo_out env k ps ts (below vs) r)) (truth (top vs)) ss tt _ refl
  act_law (select arms ss ∷ ts) vs r = chosen_law arms ss (top vs) r (λ r. todo_out env k ps ts (below vs) r)
  act_law (calling n w es xs ∷ ts) vs r = called_law n w es xs ts vs r
  act_law (calling_after n w es xs ∷ ts) vs r = refl
  act_law (changing c ∷ ts) vs r = refl
  act_law (returning ∷ ts) vs r = refl
  act_law (accepting ∷ ts) vs r = refl
  act_law (rejecting ∷ ts) vs r = refl
