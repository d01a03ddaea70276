use Rattle.std.proofs.Common.{take, drop, ◌≡◌}
use Rattle.ixp_http.specs.Fields.{items}
use Rattle.ixp_http.proofs.Items.{after_first}
use Rattle.ixp_http.proofs.fields.first_item.Given as goal

abbrev pub invariant-loop-at : goal.invariant-loop-at
invariant-loop-at l = after_first (take l.at l.bytes) (items (drop l.at l.bytes)) ≡ items l.bytes
