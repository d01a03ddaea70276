use Rattle.ixp_lang.proofs.NumbersAbove.{halts}
use Rattle.ixp_lang.proofs.route_laws.addresses_halt_at_their_faults.Goals as goal

pub returns : goal.returns
returns c = halts
