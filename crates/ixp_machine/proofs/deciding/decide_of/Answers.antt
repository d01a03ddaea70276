use Rattle.std.proofs.Common.{Some}
use Rattle.ixp_machine.proofs.deciding.decide_of.Goals as goal

pub returns-in-Some-clause-owner : goal.returns-in-Some-clause-owner
returns-in-Some-clause-owner c = c.repeated.ensures.unmade (Some c.args.owner)
