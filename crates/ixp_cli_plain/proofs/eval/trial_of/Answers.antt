use Rattle.ixp_lang.specs.Views.{config_view}
use Rattle.ixp_cli_plain.proofs.Evaluating.{not_taken}
use Rattle.ixp_cli_plain.proofs.eval.trial_of.Goals as goal

pub returns-in-Some-clause-cause : goal.returns-in-Some-clause-cause
returns-in-Some-clause-cause c =
    not_taken (config_view c.args.config.now) c.args.input.now c.in-Ok.trial c.in-Some.fault _ c.in-Ok.ensures c.in-Some.ensures c.refused-in-Some.ensures
