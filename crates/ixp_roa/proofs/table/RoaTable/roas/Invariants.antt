use Rattle.std.proofs.Common.{◌≡◌, take}
use Rattle.ixp_roa.specs.Climbs.{at_places}
use Rattle.ixp_roa.proofs.table.RoaTable.roas.Given as goal

abbrev pub invariant-loop-place : goal.invariant-loop-place
invariant-loop-place l = l.rows.items ≡ at_places l.self-inside.index (take l.place-index l.place-items)
