use Rattle.ixp_eval_trial.proofs.Cuts.{parted}
use Rattle.ixp_eval_trial.proofs.cutting.parted.Goals as goal

pub returns : goal.returns
returns c = rw (c.split_at.ensures.front, c.split_at.ensures.back, c.unwrap_or.ensures, c.first_mark.ensures) (parted c.args.mark c.args.t.now)
