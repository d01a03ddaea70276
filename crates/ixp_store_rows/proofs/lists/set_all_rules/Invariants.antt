use Rattle.std.proofs.Common.{◌≡◌, ◌++◌, drop, map, flat_map}
use Rattle.ixp_store_rows.specs.States.{rule_rows, set_row}
use Rattle.ixp_store_rows.proofs.lists.set_all_rules.Given as goal

abbrev pub invariant-loop-list : goal.invariant-loop-list
invariant-loop-list l = l.batch.items ++ map set_row (flat_map rule_rows (drop l.list-index l.lists)) ≡ l.fn.batch.items ++ map set_row (flat_map rule_rows l.lists)
