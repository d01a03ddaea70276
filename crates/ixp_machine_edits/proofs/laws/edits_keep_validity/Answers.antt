use Rattle.ixp_machine_edits.proofs.AllEdits.{still_valid}
use Rattle.ixp_machine_edits.proofs.laws.edits_keep_validity.Goals as goal

pub returns : goal.returns
returns c = still_valid
