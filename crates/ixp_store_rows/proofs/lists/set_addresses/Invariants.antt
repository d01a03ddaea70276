use Rattle.std.proofs.Common.{◌≡◌, ◌++◌, drop, map, flat_map}
use Rattle.ixp_store_rows.specs.States.{address_rows, set_row}
use Rattle.ixp_store_rows.proofs.lists.set_addresses.Given as goal

abbrev pub invariant-loop-interface : goal.invariant-loop-interface
invariant-loop-interface l = l.batch.items ++ map set_row (flat_map address_rows (drop l.interface-index l.interfaces)) ≡ l.fn.batch.items ++ map set_row (flat_map address_rows l.interfaces)
