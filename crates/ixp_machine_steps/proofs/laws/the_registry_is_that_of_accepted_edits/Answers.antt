use Rattle.ixp_machine_steps.proofs.Once.{run_registry}
use Rattle.ixp_machine_steps.proofs.laws.the_registry_is_that_of_accepted_edits.Goals as goal

pub returns : goal.returns
returns c = λ s es. run_registry es s
