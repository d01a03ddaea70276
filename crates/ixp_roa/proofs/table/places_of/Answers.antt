use Rattle.std.proofs.Common.{sym}
use Rattle.ixp_roa.proofs.table.places_of.Goals as goal

pub place_of_roa-requires : goal.place_of_roa-requires
place_of_roa-requires c = c.requires c.row-item.result (c.loop-row.row-index, c.loop-row-test.true, sym c.row-item.is)
