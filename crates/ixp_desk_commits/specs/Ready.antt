-- A request that was made ready is one that a state accepts.
use Rattle.std.specs.Prelude.{◌≡◌}
use Rattle.ixp_machine_edits.specs.Edits.{IsLawful}
use Rattle.ixp_machine_steps.specs.declared.state.Entry.{Entry}
use Rattle.ixp_machine_steps.specs.declared.state.State.{State}
use Rattle.ixp_machine_steps.specs.Steps.{Accepted, step, verdict}
use Rattle.ixp_machine.specs.declared.preparing.Prepared.{Prepared}
use Rattle.ixp_machine.specs.Prepared.{prepared}

-- the request that it makes, which is accepted
pub record IsReady (s : State) (p : Prepared) : Type 0 where
  pub entry : Entry
  pub lawful : IsLawful entry.edit
  pub accepted : verdict s entry ≡ Accepted
  pub makes : prepared s p ≡ step s entry
