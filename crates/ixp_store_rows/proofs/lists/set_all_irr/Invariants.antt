use Rattle.std.proofs.Common.{◌≡◌, ◌++◌, drop, map}
use Rattle.ixp_store_rows.specs.Names.{irr_row}
use Rattle.ixp_store_rows.specs.States.{set_row}
use Rattle.ixp_store_rows.proofs.lists.set_all_irr.Given as goal

abbrev pub invariant-loop-list : goal.invariant-loop-list
invariant-loop-list l = l.batch.items ++ map set_row (map irr_row (drop l.list-index l.lists)) ≡ l.fn.batch.items ++ map set_row (map irr_row l.lists)
