use Rattle.ixp_desk_history.proofs.Versions.{one_version}
use Rattle.ixp_desk_history.proofs.laws.versions_are_one.Goals as goal

pub returns : goal.returns
returns c = one_version
