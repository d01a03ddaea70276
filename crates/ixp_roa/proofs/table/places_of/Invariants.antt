use Rattle.std.proofs.Common.{◌≡◌, take}
use Rattle.ixp_roa.specs.Climbs.{at_places}
use Rattle.ixp_roa.proofs.table.places_of.Given as goal

abbrev pub invariant-loop-row : goal.invariant-loop-row
invariant-loop-row l = at_places l.ordered l.places.items ≡ take l.row-index l.rows
