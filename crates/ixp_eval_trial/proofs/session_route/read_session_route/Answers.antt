use Rattle.std.proofs.Common.{ap, ◌+◌}
use Rattle.ixp_eval_trial.proofs.OneSessionRoute.{one_line_more}
use Rattle.ixp_eval_trial.proofs.session_route.read_session_route.Goals as goal

pub returns-in-Some-first_line : goal.returns-in-Some-first_line
returns-in-Some-first_line c =
    one_line_more c.args.behind.now c.in-Some.line.now c.in-Some.after.now c.in-Some-first_line.field-0.0.now c.in-Some-first_line.field-0.1.now
    c.in-Ok.route.router c.in-Ok.route.interface c.in-Ok.route.route _ _
    c.in-Some.ensures c.in-Some-first_line.ensures c.in-Ok.ensures.route (ap (λ n. n + 1 + 1) c.lines_count-number.ensures.count)
