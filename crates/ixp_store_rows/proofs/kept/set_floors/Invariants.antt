use Rattle.std.proofs.Common.{◌≡◌, ◌++◌, drop, map, flat_map}
use Rattle.ixp_store_rows.specs.Names.{floor_rows}
use Rattle.ixp_store_rows.specs.States.{set_row}
use Rattle.ixp_store_rows.proofs.kept.set_floors.Given as goal

abbrev pub invariant-loop-owner : goal.invariant-loop-owner
invariant-loop-owner l = l.batch.items ++ map set_row (flat_map floor_rows (drop l.owner-index l.kept)) ≡ l.fn.batch.items ++ map set_row (flat_map floor_rows l.kept)
