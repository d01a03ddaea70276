use Rattle.std.proofs.Common.{◌≡◌}
use Rattle.ixp_eval.specs.Costs.{all_cost}
use Rattle.ixp_eval.specs.Outcomes.{body_out, wait_out}
use Rattle.ixp_eval.specs.Views.{body_view, environment_of, waits}
use Rattle.ixp_eval.proofs.run.run_body.Given as goal

abbrev pub invariant-steps : goal.invariant-steps
invariant-steps l =
    wait_out (environment_of l.env) (waits l.waiting) (body_out (environment_of l.env) (body_view l.frame) l.route)
    ≡ body_out (environment_of l.env) (body_view l.initial.frame) l.initial.route

abbrev pub decreases-steps : goal.decreases-steps
decreases-steps l = all_cost (body_view l.frame) (waits l.waiting)
