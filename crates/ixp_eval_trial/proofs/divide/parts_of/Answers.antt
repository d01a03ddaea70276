use Rattle.std.specs.Cmp.Lexicographic.{same_text, other_text}
use Rattle.std.proofs.Common.{◌∙◌, ◌≢◌, subst, sym}
use Rattle.ixp_eval_trial.proofs.Parting.{divides, one_more}
use Rattle.ixp_eval_trial.proofs.divide.parts_of.Goals as goal

pub returns-then-eq-clause-parts : goal.returns-then-eq-clause-parts
returns-then-eq-clause-parts c =
    divides c.args.input.now c.each.rest.now c.in-Some.line.now c.in-Some.behind.now c.split_at.result.0.now c.each.before c.each.invariant c.in-Some.ensures
    (same_text c.in-Some.line.now c.as_slice.result.now (sym c.if-eq.true ∙ c.eq.ensures) ∙ c.as_slice.ensures) c.split_at.ensures.front

pub each-preserved : goal.each-preserved
each-preserved c =
    one_more _ c.each.rest.now c.in-Some.line.now c.in-Some.behind.now c.each.before c.each.invariant c.in-Some.ensures
    (subst (λ t. c.in-Some.line.now ≢ t) c.as_slice.ensures (other_text c.in-Some.line.now c.as_slice.result.now (sym c.if-eq.false ∙ c.eq.ensures)))
