use Rattle.std.proofs.Common.{◌≡◌, ◌+◌, length}
use Rattle.ixp_lang.specs.RouteReading.{first_above}
use Rattle.ixp_lang.proofs.reading.fields.first_above.Given as goal

abbrev pub invariant-bytes : goal.invariant-bytes
invariant-bytes l = record {
  goes_on : first_above l.bits l.before l.place l.left ≡ first_above l.bits 32 0 l.front;
  fits : l.place + length l.left ≡ length l.front;
}

abbrev pub decreases-bytes : goal.decreases-bytes
decreases-bytes l = length l.left
