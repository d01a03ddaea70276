use Rattle.std.proofs.Common.{sym, ◌∙◌}
use Rattle.ixp_eval_trial.proofs.Fields.{no_session, no_session_name}
use Rattle.ixp_eval_trial.proofs.route_line.session_and_text.Goals as goal

pub returns-in_default-cut : goal.returns-in_default-cut
returns-in_default-cut c = no_session c.args.line.now c.in-Some.rest.now c.in-Some.ensures c.in_default-cut.ensures

pub returns-else-is_name : goal.returns-else-is_name
returns-else-is_name c =
    no_session_name c.args.line.now c.in-Some.rest.now c.in-Some-cut.session.now c.in-Some-cut.text.now c.in-Some.ensures c.in-Some-cut.ensures (sym c.is_name.ensures ∙ c.if-is_name.false)
