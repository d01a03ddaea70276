use Rattle.std.proofs.Common.{◌≡◌, filter, take}
use Rattle.ixp_registry.specs.Lookups.{is_connected}
use Rattle.ixp_ixf.specs.Rows.{shown}
use Rattle.ixp_ixf.proofs.members.connected.Given as goal

abbrev pub invariant-loop-member : goal.invariant-loop-member
invariant-loop-member l = shown l.found.items ≡ filter (λ m. is_connected m.status) (take l.member-index l.members)
