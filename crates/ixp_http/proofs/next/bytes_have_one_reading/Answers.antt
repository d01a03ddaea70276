use Rattle.ixp_http.proofs.Readings.{one_reading}
use Rattle.ixp_http.proofs.next.bytes_have_one_reading.Goals as goal

pub returns : goal.returns
returns c = one_reading
