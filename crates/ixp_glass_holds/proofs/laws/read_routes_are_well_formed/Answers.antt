use Rattle.ixp_glass_holds.proofs.Formed.{read_formed}
use Rattle.ixp_glass_holds.proofs.laws.read_routes_are_well_formed.Goals as goal

pub returns : goal.returns
returns c = read_formed
