-- A run to its end.
use Rattle.std.specs.Prelude.{◌≡◌, ◌<◌, List, refl}
use Rattle.std.proofs.Common.{ap, sym, subst, ◌∙◌}
use Rattle.ixp_lang.specs.declared.route.Route.{Route}
use Rattle.ixp_lang.specs.Meaning.{Environment, End, fails}
use Rattle.ixp_eval.specs.declared.fault.EvalFault.{EvalFault}
use Rattle.ixp_eval.specs.Answers.{Fails}
use Rattle.ixp_eval.specs.Frames.{Body, Wait, goes, stops, breaks, step}
use Rattle.ixp_eval.specs.Costs.{all_cost}
use Rattle.ixp_eval.specs.Outcomes.{body_out, wait_out, next_out}
use Rattle.ixp_eval.proofs.AllSteps.{step_law}
use Rattle.ixp_eval.proofs.Passing.{passed}
use Rattle.ixp_eval.proofs.Spending.{IsBelow, step_below}

module _ (env : Environment) (b : Body) (ws : List Wait) (r : Route) where
  pub over_fails : (e : End) (f : EvalFault) → Fails breaks (step env b ws r) f → wait_out env ws (body_out env b r) ≡ e → Fails fails e f
  over_fails e f p q =
      let P : End → Type 0 = λ x. Fails fails x f in
      subst P (step_law env b ws r ∙ q) (passed breaks fails (next_out env) (λ x. refl) (step env b ws r) f p)

  pub over_ends : (e h : End) → stops h ≡ step env b ws r → wait_out env ws (body_out env b r) ≡ e → h ≡ e
  over_ends e h p q = ap (next_out env) p ∙ step_law env b ws r ∙ q

  pub goes_keeps : (e : End) (c : Body) (vs : List Wait) (s : Route) → goes c vs s ≡ step env b ws r → wait_out env ws (body_out env b r) ≡ e → wait_out env vs (body_out env c s) ≡ e
  goes_keeps e c vs s p q = ap (next_out env) p ∙ step_law env b ws r ∙ q

  pub goes_below : (c : Body) (vs : List Wait) (s : Route) → goes c vs s ≡ step env b ws r → all_cost c vs < all_cost b ws
  goes_below c vs s p = subst (IsBelow (all_cost b ws)) (sym p) (step_below env b ws r)
