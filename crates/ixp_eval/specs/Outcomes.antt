-- How a body ends that has tasks left, by the meaning of what they hold.
use Rattle.std.specs.Prelude.{ℕ, Bool, true, false, not, List, [], ◌∷◌, ◌++◌, if◌then◌else◌}
use Rattle.ixp_lang.specs.declared.route.Route.{Route}
use Rattle.ixp_lang.specs.declared.value.Value.{Value}
use Rattle.ixp_lang.specs.declared.value.Value.TheVariants as value
use Rattle.ixp_lang.specs.Attributes.{compares, truth, number, checked}
use Rattle.ixp_lang.specs.Meaning.{Environment, End, falls, returns, accepts, rejects, fails, Known, Params, known, means, means_all, means_each, means_some, pair_of, roas_named, runs_all, runs_arms, value_named, for_value, for_effect}
use Rattle.ixp_eval.specs.Machine.{Operation, negates, pairs, triples, relates, checks, Todo, eval, run, name, apply, every, every_after, any, any_after, choose, select, calling, calling_after, changing, returning, accepting, rejecting, Act, on, wants, calls, done, faulty, top, below, changed}
use Rattle.ixp_eval.specs.Frames.{Body, Wait, Next, goes, stops, breaks}

-- an operator's value stands in the place of its operands
abbrev pub applied_out : Environment → Operation → List Value → (List Value → End) → End
applied_out env negates vs next = next (value.Bool (not (truth (top vs))) ∷ below vs)
applied_out env pairs vs next =
    pair_of (number (top (below vs))) (number (top vs)) (λ v. next (v ∷ below (below vs)))
applied_out env triples vs next =
    next (value.Triple (number (top (below (below vs)))) (number (top (below vs))) (number (top vs))
    ∷ below (below (below vs)))
applied_out env (relates o) vs next =
    next (value.Bool (compares o (top (below vs)) (top vs)) ∷ below (below vs))
applied_out env (checks t) vs next =
    next (checked (roas_named env.roas t) (top (below vs)) (top vs) ∷ below (below vs))

-- what a call's body gave, with the value on top or without it
abbrev pub called_out : Bool → List ℕ → End → (Value → Route → End) → (Route → End) → End
called_out true n e with_value without = for_value n e with_value
called_out false n e with_value without = for_effect e without

module _ (env : Environment) (k : Known) (ps : Params) where
  -- how a body ends
  abbrev pub todo_out : List Todo → List Value → Route → End
  todo_out [] vs r = falls r
  todo_out (eval e ∷ ts) vs r = means env k ps e r (λ v r. todo_out ts (v ∷ vs) r)
  todo_out (run ss ∷ ts) vs r = runs_all env k ps ss r (λ r. todo_out ts vs r)
  todo_out (name n ∷ ts) vs r = value_named k ps n r (λ v r. todo_out ts (v ∷ vs) r)
  todo_out (apply o ∷ ts) vs r = applied_out env o vs (λ vs. todo_out ts vs r)
  todo_out (every es ∷ ts) vs r = means_each env k ps es r (λ v r. todo_out ts (v ∷ vs) r)
  todo_out (every_after es ∷ ts) vs r =
      if truth (top vs) then means_each env k ps es r (λ v r. todo_out ts (v ∷ below vs) r)
      else todo_out ts (value.Bool false ∷ below vs) r
  todo_out (any es ∷ ts) vs r = means_some env k ps es r (λ v r. todo_out ts (v ∷ vs) r)
  todo_out (any_after es ∷ ts) vs r =
      if truth (top vs) then todo_out ts (value.Bool true ∷ below vs) r
      else means_some env k ps es r (λ v r. todo_out ts (v ∷ below vs) r)
  todo_out (choose ss tt ∷ ts) vs r =
      if truth (top vs) then runs_all env k ps ss r (λ r. todo_out ts (below vs) r)
      else runs_all env k ps tt r (λ r. todo_out ts (below vs) r)
  todo_out (select arms ss ∷ ts) vs r =
      runs_arms env k ps arms (top vs) r (λ r. todo_out ts (below vs) r)
      (λ r. runs_all env k ps ss r (λ r. todo_out ts (below vs) r))
  todo_out (calling n w es args ∷ ts) vs r =
      means_all env k ps es args r (λ xs r. called_out w n (k.call n xs r) (λ v r. todo_out ts (v ∷ vs) r)
      (λ r. todo_out ts vs r))
  todo_out (calling_after n w es args ∷ ts) vs r =
      means_all env k ps es (args ++ top vs ∷ []) r (λ xs r. called_out w n (k.call n xs r)
      (λ v r. todo_out ts (v ∷ below vs) r) (λ r. todo_out ts (below vs) r))
  todo_out (changing c ∷ ts) vs r = todo_out ts (below vs) (changed c (top vs) r)
  todo_out (returning ∷ ts) vs r = returns (top vs) r
  todo_out (accepting ∷ ts) vs r = accepts r
  todo_out (rejecting ∷ ts) vs r = rejects

  -- how it ends after a step
  abbrev pub act_out : Act → End
  act_out (on ts vs r) = todo_out ts vs r
  act_out (wants n ts vs r) = value_named k ps n r (λ v r. todo_out ts (v ∷ vs) r)
  act_out (calls n w args ts vs r) =
      called_out w n (k.call n args r) (λ v r. todo_out ts (v ∷ vs) r) (λ r. todo_out ts vs r)
  act_out (done e) = e
  act_out (faulty f) = fails f

module _ (env : Environment) where
  abbrev pub body_out : Body → Route → End
  body_out b r = todo_out env (known env b.before) b.params b.tasks b.values r

  -- how a body that waits ends
  abbrev pub wait_ends : Wait → End → End
  wait_ends w e =
      called_out w.wanted w.name e
      (λ v r. todo_out env (known env w.body.before) w.body.params w.body.tasks (v ∷ w.body.values) r)
      (λ r. todo_out env (known env w.body.before) w.body.params w.body.tasks w.body.values r)

  -- how all ends, where the running body ends so
  abbrev pub wait_out : List Wait → End → End
  wait_out [] e = e
  wait_out (w ∷ ws) e = wait_out ws (wait_ends w e)

  abbrev pub next_out : Next → End
  next_out (goes b ws r) = wait_out ws (body_out b r)
  next_out (stops e) = e
  next_out (breaks f) = fails f
