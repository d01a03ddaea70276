use Rattle.ixp_eval_trial.proofs.OneSessionRoute.{one_session_route}
use Rattle.ixp_eval_trial.proofs.OneTrial.{one_text, one_trial}
use Rattle.ixp_eval_trial.proofs.laws.one_answer.Goals as goal

pub returns-clause-text : goal.returns-clause-text
returns-clause-text c = one_text

pub returns-clause-trial : goal.returns-clause-trial
returns-clause-trial c = one_trial

pub returns-clause-session : goal.returns-clause-session
returns-clause-session c = one_session_route
