use Rattle.std.proofs.Common.{refl}
use Rattle.ixp_api.proofs.routing.numbered.Goals as goal

pub returns-clause-says : goal.returns-clause-says
returns-clause-says c = (_, refl, (let same = c.in_ok-secret.ensures in cc), refl, refl)
