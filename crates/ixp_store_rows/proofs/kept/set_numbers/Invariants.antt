use Rattle.std.proofs.Common.{◌≡◌, ◌++◌, drop, map}
use Rattle.ixp_store_rows.specs.Names.{kept_row}
use Rattle.ixp_store_rows.specs.States.{set_row}
use Rattle.ixp_store_rows.proofs.kept.set_numbers.Given as goal

abbrev pub invariant-loop-number : goal.invariant-loop-number
invariant-loop-number l = l.batch.items ++ map set_row (map (kept_row l.kept.owner) (drop l.number-index l.kept.numbers)) ≡ l.fn.batch.items ++ map set_row (map (kept_row l.kept.owner) l.kept.numbers)
