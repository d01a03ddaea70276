use Rattle.ixp_http.proofs.Found.{found}
use Rattle.ixp_http.proofs.request.found_head.Goals as goal

pub returns : goal.returns
returns c = found _ _ _ c.requires.cut c.requires.found _ c.head_at.ensures
