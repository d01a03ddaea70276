use Rattle.std.proofs.Common.{◌≡◌, ℕ, [], ◌∷◌, length, map}
use Rattle.ixp_io.specs.Tables.{row_entry}
use Rattle.ixp_store_rows.specs.Names.{count_row}
use Rattle.ixp_store_damage.specs.Loading.{kind_rows}
use Rattle.ixp_store_load.proofs.opened.count_in.Given as goal

abbrev pub invariant-rows : goal.invariant-rows
invariant-rows l = (n : ℕ) → kind_rows 20 (map row_entry l.fn.rows) ≡ count_row n ∷ [] → kind_rows 20 (map row_entry l.left) ≡ count_row n ∷ []

abbrev pub decreases-rows : goal.decreases-rows
decreases-rows l = length l.left
