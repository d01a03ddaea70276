use Rattle.ixp_http.proofs.Total.{has_reading}
use Rattle.ixp_http.proofs.next.bytes_have_a_reading.Goals as goal

pub returns : goal.returns
returns c = has_reading
