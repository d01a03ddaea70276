use Rattle.ixp_machine_steps.proofs.Accepting.{not_spent}
use Rattle.ixp_machine_steps.proofs.Once.{spent_run, used_step}
use Rattle.ixp_machine_steps.proofs.laws.used_numbers_stay_used.Goals as goal

pub returns : goal.returns
returns c = record {
  stays = λ s es owner n v spent. spent_run es s owner n (record { order = v.order; each = v.each }) spent;
  unused = not_spent;
  used = used_step;
}
