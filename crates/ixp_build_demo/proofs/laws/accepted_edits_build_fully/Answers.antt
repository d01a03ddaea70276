use Rattle.ixp_build_demo.proofs.EditsBuilt.{edits_built}
use Rattle.ixp_build_demo.proofs.laws.accepted_edits_build_fully.Goals as goal

pub returns : goal.returns
returns c = edits_built
