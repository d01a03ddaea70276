use Rattle.ixp_http.proofs.Found.{none_found}
use Rattle.ixp_http.proofs.request.head_of.Goals as goal

pub returns-in-Err : goal.returns-in-Err
returns-in-Err c = none_found _ 64 c.requires.cut c.requires.few c.in-Err.ensures.no_room
