use Rattle.ixp_desk_history.proofs.ShownRight.{shown_right}
use Rattle.ixp_desk_history.proofs.laws.readers_see_one_version.Goals as goal

pub returns : goal.returns
returns c = shown_right
