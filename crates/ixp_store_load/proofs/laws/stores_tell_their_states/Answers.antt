use Rattle.ixp_store_load.proofs.OneState.{one_state}
use Rattle.ixp_store_load.proofs.laws.stores_tell_their_states.Goals as goal

pub returns : goal.returns
returns c = one_state
