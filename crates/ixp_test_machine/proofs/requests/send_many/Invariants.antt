use Rattle.ixp_machine_steps.specs.States.{ValidState}
use Rattle.ixp_test_machine.proofs.requests.send_many.Given as goal

abbrev pub invariant-each : goal.invariant-each
invariant-each l = ValidState l.state
