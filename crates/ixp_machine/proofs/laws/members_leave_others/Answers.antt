use Rattle.ixp_machine.proofs.OthersKept.{others_kept}
use Rattle.ixp_machine.proofs.laws.members_leave_others.Goals as goal

pub returns : goal.returns
returns c = others_kept
