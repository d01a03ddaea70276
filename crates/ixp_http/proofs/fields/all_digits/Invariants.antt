use Rattle.std.proofs.Common.{drop, ◌≡◌}
use Rattle.ixp_http.specs.Fields.{all_digits}
use Rattle.ixp_http.proofs.fields.all_digits.Given as goal

abbrev pub invariant-loop-b : goal.invariant-loop-b
invariant-loop-b l = all_digits (drop l.b-index l.bytes) ≡ all_digits l.bytes
