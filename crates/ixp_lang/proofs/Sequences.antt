-- What comes next after a meaning may be put into it, or applied to what it gives by itself.
use Rattle.std.proofs.Common.{◌≡◌, ℕ, Bool, true, false, not, nat_lt, List, [], ◌∷◌, ◌++◌, Option, Some, None, if◌then◌else◌, refl, sym, ◌∙◌}
use Rattle.ixp_lang.specs.declared.route.Route.{Route}
use Rattle.ixp_lang.specs.declared.value.Value.{Value}
use Rattle.ixp_lang.specs.declared.value.Value.TheVariants as value
use Rattle.ixp_lang.specs.Attributes.{attribute_of, compares, truth, number, has_label, checked, with_next_hop, prepended, with_pair, with_triple, without_pairs, without_triples}
use Rattle.ixp_lang.specs.Faults.{Fault, pair_range, no_return}
use Rattle.ixp_lang.specs.Trees.{ExprTree, literal, named, attribute, call, roa_check, pair, triple, set_literal, negation, conjunction, disjunction, comparison, ExprTrees, exprs_end, exprs_more, StmtTree, block, if_then, case_of, return_value, accept, reject, call_statement, set_next_hop, prepend, add_pair, delete_pairs, add_triple, delete_triples, StmtTrees, stmts_end, stmts_more, ArmTrees, arms_end, arms_more}
use Rattle.ixp_lang.specs.Meaning.{Environment, End, falls, returns, accepts, rejects, fails, Known, Params, find_named, roas_named, for_value, for_effect, given_or, pair_of, means, means_all, means_each, means_some, runs, runs_all, runs_arms}
use Rattle.ixp_lang.specs.Sequence.{hands_on, runs_on}

-- `T` puts something after an end, and leaves a verdict and a fault as they are.
module _ (T : End → End) (accepted : (r : Route) → T (accepts r) ≡ accepts r) (rejected : T rejects ≡ rejects) (failed : (f : Fault) → T (fails f) ≡ fails f) where
  if_both : (b : Bool) (x y s t : End) → T x ≡ s → T y ≡ t → T (if b then x else y) ≡ (if b then s else t)
  if_both true x y s t p q = p
  if_both false x y s t p q = q

  value_then : (n : List ℕ) (x : End) (next : Value → Route → End) → T (for_value n x next) ≡ for_value n x (λ v r. T (next v r))
  value_then n (falls r) next = failed (no_return n)
  value_then n (returns v r) next = refl
  value_then n (accepts r) next = accepted r
  value_then n rejects next = rejected
  value_then n (fails f) next = failed f

  effect_then : (x : End) (next : Route → End) → T (for_effect x next) ≡ for_effect x (λ r. T (next r))
  effect_then (falls r) next = refl
  effect_then (returns v r) next = refl
  effect_then (accepts r) next = accepted r
  effect_then rejects next = rejected
  effect_then (fails f) next = failed f

  given_then : (o : Option Value) (next : Value → End) (other after : End) → T other ≡ after → T (given_or o next other) ≡ given_or o (λ v. T (next v)) after
  given_then (Some v) next other after p = refl
  given_then None next other after p = p

  pair_then : (a b : ℕ) (next : Value → End) → T (pair_of a b next) ≡ pair_of a b (λ x. T (next x))
  pair_then a b next =
      if_both (nat_lt 65535 a) (fails (pair_range a)) (if nat_lt 65535 b then fails (pair_range b) else next (value.Pair a b)) (fails (pair_range a))
      (if nat_lt 65535 b then fails (pair_range b) else T (next (value.Pair a b))) (failed (pair_range a))
      (if_both (nat_lt 65535 b) (fails (pair_range b)) (next (value.Pair a b)) (fails (pair_range b)) (T (next (value.Pair a b))) (failed (pair_range b)) refl)

  module _ (env : Environment) (k : Known) (ps : Params) where
    mutual
      pub means_then : (e : ExprTree) (r : Route) (next : Value → Route → End) → T (means env k ps e r next) ≡ means env k ps e r (λ v r. T (next v r))
      means_then (literal v) r next = refl
      means_then (named n) r next =
          given_then (find_named ps n) (λ v. next v r) (for_value n (k.value n r) next) (for_value n (k.value n r) (λ v r. T (next v r))) (value_then n (k.value n r) next)
      means_then (attribute a) r next = refl
      means_then (call n es) r next =
          all_then es [] r (λ vs r. for_value n (k.call n vs r) next)
          ∙ (λ i. means_all env k ps es [] r (λ vs r. value_then n (k.call n vs r) next i))
      means_then (roa_check t e f) r next =
          means_then e r (λ v r. means env k ps f r (λ w r. next (checked (roas_named env.roas t) v w) r))
          ∙ (λ i. means env k ps e r (λ v r. means_then f r (λ w r. next (checked (roas_named env.roas t) v w) r) i))
      means_then (pair e f) r next =
          means_then e r (λ v r. means env k ps f r (λ w r. pair_of (number v) (number w) (λ x. next x r)))
          ∙ (λ i. means env k ps e r (λ v r.
          (means_then f r (λ w r. pair_of (number v) (number w) (λ x. next x r))
          ∙ (λ j. means env k ps f r (λ w r. pair_then (number v) (number w) (λ x. next x r) j))) i))
      means_then (triple e f g) r next =
          means_then e r (λ u r. means env k ps f r (λ v r. means env k ps g r (λ w r. next (value.Triple (number u) (number v) (number w)) r)))
          ∙ (λ i. means env k ps e r (λ u r.
          (means_then f r (λ v r. means env k ps g r (λ w r. next (value.Triple (number u) (number v) (number w)) r))
          ∙ (λ j. means env k ps f r (λ v r. means_then g r (λ w r. next (value.Triple (number u) (number v) (number w)) r) j))) i))
      means_then (set_literal s) r next = refl
      means_then (negation e) r next = means_then e r (λ v r. next (value.Bool (not (truth v))) r)
      means_then (conjunction es) r next = each_then es r next
      means_then (disjunction es) r next = some_then es r next
      means_then (comparison o e f) r next =
          means_then e r (λ v r. means env k ps f r (λ w r. next (value.Bool (compares o v w)) r))
          ∙ (λ i. means env k ps e r (λ v r. means_then f r (λ w r. next (value.Bool (compares o v w)) r) i))

      all_then : (es : ExprTrees) (vs : List Value) (r : Route) (next : List Value → Route → End)
          → T (means_all env k ps es vs r next) ≡ means_all env k ps es vs r (λ vs r. T (next vs r))
      all_then exprs_end vs r next = refl
      all_then (exprs_more e es) vs r next =
          means_then e r (λ v r. means_all env k ps es (vs ++ v ∷ []) r next)
          ∙ (λ i. means env k ps e r (λ v r. all_then es (vs ++ v ∷ []) r next i))

      each_then : (es : ExprTrees) (r : Route) (next : Value → Route → End) → T (means_each env k ps es r next) ≡ means_each env k ps es r (λ v r. T (next v r))
      each_then exprs_end r next = refl
      each_then (exprs_more e es) r next =
          means_then e r (λ v r. if truth v then means_each env k ps es r next else next (value.Bool false) r)
          ∙ (λ i. means env k ps e r (λ v r.
          if_both (truth v) (means_each env k ps es r next) (next (value.Bool false) r) (means_each env k ps es r (λ v r. T (next v r))) (T (next (value.Bool false) r)) (each_then es r next) refl i))

      some_then : (es : ExprTrees) (r : Route) (next : Value → Route → End) → T (means_some env k ps es r next) ≡ means_some env k ps es r (λ v r. T (next v r))
      some_then exprs_end r next = refl
      some_then (exprs_more e es) r next =
          means_then e r (λ v r. if truth v then next (value.Bool true) r else means_some env k ps es r next)
          ∙ (λ i. means env k ps e r (λ v r.
          if_both (truth v) (next (value.Bool true) r) (means_some env k ps es r next) (T (next (value.Bool true) r)) (means_some env k ps es r (λ v r. T (next v r))) refl (some_then es r next) i))

    -- where `T` leaves what is returned as it is, too
    module _ (returned : (v : Value) (r : Route) → T (returns v r) ≡ returns v r) where
      mutual
        pub run_then : (s : StmtTree) (r : Route) (next : Route → End) → T (runs env k ps s r next) ≡ runs env k ps s r (λ r. T (next r))
        run_then (block ss) r next = runs_then ss r next
        run_then (if_then e ss ts) r next =
            means_then e r (λ v r. if truth v then runs_all env k ps ss r next else runs_all env k ps ts r next)
            ∙ (λ i. means env k ps e r (λ v r.
            if_both (truth v) (runs_all env k ps ss r next) (runs_all env k ps ts r next) (runs_all env k ps ss r (λ r. T (next r))) (runs_all env k ps ts r (λ r. T (next r))) (runs_then ss r next) (runs_then ts r next) i))
        run_then (case_of e arms ss) r next =
            means_then e r (λ v r. runs_arms env k ps arms v r next (λ r. runs_all env k ps ss r next))
            ∙ (λ i. means env k ps e r (λ v r.
            (arms_then arms v r next (λ r. runs_all env k ps ss r next)
            ∙ (λ j. runs_arms env k ps arms v r (λ r. T (next r)) (λ r. runs_then ss r next j))) i))
        run_then (return_value e) r next = means_then e r (λ v r. returns v r) ∙ (λ i. means env k ps e r (λ v r. returned v r i))
        run_then accept r next = accepted r
        run_then reject r next = rejected
        run_then (call_statement n es) r next =
            all_then es [] r (λ vs r. for_effect (k.call n vs r) next)
            ∙ (λ i. means_all env k ps es [] r (λ vs r. effect_then (k.call n vs r) next i))
        run_then (set_next_hop e) r next = means_then e r (λ v r. next (with_next_hop v r))
        run_then (prepend e) r next = means_then e r (λ v r. next (prepended v r))
        run_then (add_pair e) r next = means_then e r (λ v r. next (with_pair v r))
        run_then (delete_pairs e) r next = means_then e r (λ v r. next (without_pairs v r))
        run_then (add_triple e) r next = means_then e r (λ v r. next (with_triple v r))
        run_then (delete_triples e) r next = means_then e r (λ v r. next (without_triples v r))

        pub runs_then : (ss : StmtTrees) (r : Route) (next : Route → End) → T (runs_all env k ps ss r next) ≡ runs_all env k ps ss r (λ r. T (next r))
        runs_then stmts_end r next = refl
        runs_then (stmts_more s ss) r next =
            run_then s r (λ r. runs_all env k ps ss r next) ∙ (λ i. runs env k ps s r (λ r. runs_then ss r next i))

        arms_then : (arms : ArmTrees) (v : Value) (r : Route) (next other : Route → End)
            → T (runs_arms env k ps arms v r next other) ≡ runs_arms env k ps arms v r (λ r. T (next r)) (λ r. T (other r))
        arms_then arms_end v r next other = refl
        arms_then (arms_more ls ss arms) v r next other =
            if_both (has_label ls v) (runs_all env k ps ss r next) (runs_arms env k ps arms v r next other) (runs_all env k ps ss r (λ r. T (next r)))
            (runs_arms env k ps arms v r (λ r. T (next r)) (λ r. T (other r))) (runs_then ss r next) (arms_then arms v r next other)

pub expression_followed : (env : Environment) (k : Known) (ps : Params) (e : ExprTree) (r : Route) (next : Value → Route → End)
    → means env k ps e r next ≡ hands_on (means env k ps e r returns) next
expression_followed env k ps e r next = sym (means_then (λ x. hands_on x next) (λ r. refl) refl (λ f. refl) env k ps e r returns)

pub statements_followed : (env : Environment) (k : Known) (ps : Params) (ss : StmtTrees) (r : Route) (next : Route → End)
    → runs_all env k ps ss r next ≡ runs_on (runs_all env k ps ss r falls) next
statements_followed env k ps ss r next = sym (runs_then (λ x. runs_on x next) (λ r. refl) refl (λ f. refl) env k ps (λ v r. refl) ss r falls)

pub statement_followed : (env : Environment) (k : Known) (ps : Params) (s : StmtTree) (ss : StmtTrees) (r : Route)
    → runs_all env k ps (stmts_more s ss) r falls ≡ runs_on (runs_all env k ps (stmts_more s stmts_end) r falls) (λ q. runs_all env k ps ss q falls)
statement_followed env k ps s ss r =
    sym (run_then (λ x. runs_on x (λ q. runs_all env k ps ss q falls)) (λ r. refl) refl (λ f. refl) env k ps (λ v r. refl) s r falls)
