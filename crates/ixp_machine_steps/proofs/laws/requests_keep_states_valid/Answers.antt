use Rattle.ixp_machine_steps.proofs.Staying.{still_a_state}
use Rattle.ixp_machine_steps.proofs.laws.requests_keep_states_valid.Goals as goal

pub returns : goal.returns
returns c = still_a_state
