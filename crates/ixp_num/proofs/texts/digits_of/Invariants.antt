use Rattle.std.proofs.Common.{◌≡◌, ◌≤◌, ◌^◌, length}
use Rattle.ixp_num.specs.Reading.{digits_after}
use Rattle.ixp_num.proofs.texts.digits_of.Given as goal

abbrev pub invariant-digits : goal.invariant-digits
invariant-digits l = record { bounded : l.number ≤ 2 ^ 32; same : digits_after l.number l.rest ≡ digits_after l.first l.bytes }

abbrev pub decreases-digits : goal.decreases-digits
decreases-digits l = length l.rest
