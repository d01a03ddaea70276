use Rattle.std.proofs.Common.{ℕ, ◌<◌, ◌^◌, length, map}
use Rattle.ixp_io.specs.Tables.{row_entry}
use Rattle.ixp_store_rows.specs.Names.{Entry, count_row}
use Rattle.ixp_store_words.specs.Sorting.{Has}
use Rattle.ixp_store_load.proofs.opened.count_told.Given as goal

abbrev pub invariant-rows : goal.invariant-rows
invariant-rows l = record {
  within : (e : Entry) → Has (map row_entry l.left) e → Has (map row_entry l.fn.rows) e;
  none : (n : ℕ) → n < 2 ^ 64 → Has (map row_entry l.fn.rows) (count_row n) → Has (map row_entry l.left) (count_row n);
}

abbrev pub decreases-rows : goal.decreases-rows
decreases-rows l = length l.left
