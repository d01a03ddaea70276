use Rattle.ixp_eval_trial.proofs.Cuts.{leads_cut}
use Rattle.ixp_eval_trial.proofs.cutting.first_line.Goals as goal

pub returns-in-Some : goal.returns-in-Some
returns-in-Some c = leads_cut c.args.t.now c.in-Some.line.now c.in-Some.behind.now c.in-Some.ensures
