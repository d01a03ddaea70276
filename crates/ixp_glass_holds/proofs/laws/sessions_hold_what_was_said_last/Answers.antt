use Rattle.ixp_glass_holds.proofs.LastHolds.{others_last, own_last}
use Rattle.ixp_glass_holds.proofs.laws.sessions_hold_what_was_said_last.Goals as goal

pub returns-clause-own : goal.returns-clause-own
returns-clause-own c = own_last

pub returns-clause-others : goal.returns-clause-others
returns-clause-others c = others_last
