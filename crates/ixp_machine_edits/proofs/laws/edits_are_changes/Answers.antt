use Rattle.ixp_machine_edits.proofs.EditChanges.{change_is_next}
use Rattle.ixp_machine_edits.proofs.laws.edits_are_changes.Goals as goal

pub returns : goal.returns
returns c = change_is_next
