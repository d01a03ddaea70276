use Rattle.std.proofs.lemmas.Result.{err_from_is_err_and}
use Rattle.ixp_eval.specs.Views.{body_view, environment_of, waits, end_of}
use Rattle.ixp_eval.proofs.Ending.{over_fails, over_ends, goes_keeps, goes_below}
use Rattle.ixp_eval.proofs.run.run_body.Goals as goal

pub returns-in_err-how : goal.returns-in_err-how
returns-in_err-how c =
    let p = err_from_is_err_and c.from_residual.result c.from_residual.ensures.1 in
    rw (p.1, p.2) (over_fails (environment_of c.args.env.now) (body_view c.steps.frame) (waits c.steps.waiting) c.steps.route _ _ c.in_err-how.ensures c.steps.invariant)

pub returns-in-Some : goal.returns-in-Some
returns-in-Some c =
    let h = rw c.in-Some.is at c.in_ok-how.ensures in
    over_ends (environment_of c.args.env.now) (body_view c.steps.frame) (waits c.steps.waiting) c.steps.route _ (end_of c.in-Some.how c.step.new.route) h c.steps.invariant

pub steps-smaller : goal.steps-smaller
steps-smaller c =
    let h = rw c.in-None.is at c.in_ok-how.ensures in
    goes_below (environment_of c.args.env.now) (body_view c.steps.frame) (waits c.steps.waiting) c.steps.route (body_view c.step.new.frame) (waits c.step.new.waiting) c.step.new.route h

pub steps-preserved : goal.steps-preserved
steps-preserved c =
    let h = rw c.in-None.is at c.in_ok-how.ensures in
    goes_keeps (environment_of c.args.env.now) (body_view c.steps.frame) (waits c.steps.waiting) c.steps.route _ (body_view c.step.new.frame) (waits c.step.new.waiting) c.step.new.route h c.steps.invariant
