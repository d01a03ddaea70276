-- What stands in the two trees for a row of a keeper, and what it does to them that a row is written.
use Rattle.std.specs.Prelude.{◌≡◌, ◌≤◌, ℕ, ℤ, pos, List, [], ◌∷◌, IsTrue}
use Rattle.ixp_io.specs.declared.keeper.RowName.{RowName}
use Rattle.ixp_keeper_sql.specs.declared.trees.Places.{Places}
use Rattle.sqlite_value.specs.declared.value.Value.TheVariants.{Int, Blob}
use Rattle.sqlite_value.specs.Order.{Row}
use Rattle.sqlite_trees.specs.Tree.{order_of, put_row, without_rowid, insert_entry, remove_entry}
use Rattle.sqlite_trees.specs.View.{View, SetsTree, IsClean, doubt}

-- a name as the first columns of an entry
abbrev pub name_of : RowName → Row
name_of name = Int (pos name.kind) ∷ Blob name.key ∷ []

-- the entry of the index, and the row of the table
abbrev pub entry_of : RowName → ℤ → Row
entry_of name id = Int (pos name.kind) ∷ Blob name.key ∷ Int id ∷ []

abbrev pub row_of : ℤ → RowName → List ℕ → Row
row_of id name body = Int id ∷ Int (pos name.kind) ∷ Blob name.key ∷ Blob body ∷ []

-- the row is put in the table, in place of one with its rowid
abbrev pub SetsRow : Places → ℤ → RowName → List ℕ → View → View → Type 0
SetsRow places id name body old new = SetsTree old new places.rows (put_row (row_of id name body))

-- and its entry is put in the index
abbrev pub AddsRow : Places → ℤ → RowName → List ℕ → View → View → Type 0
AddsRow places id name body old new =
    (mid : View) × SetsRow places id name body old mid
    × SetsTree mid new places.names (insert_entry (order_of (mid.shape places.names)) (entry_of name id))

-- the entry goes, and then the row
abbrev pub TakesRow : Places → ℤ → RowName → View → View → Type 0
TakesRow places id name old new =
    (mid : View) × SetsTree old mid places.names (remove_entry (order_of (old.shape places.names))
    (entry_of name id)) × SetsTree mid new places.rows (without_rowid id)

-- While the store is open, its last commit stands. Where it is clean now, it was clean.
pub record KeepsLast (old new : View) : Type 0 where
  pub clean : doubt old.is_clean ≤ doubt new.is_clean
  pub last : IsClean new → IsTrue new.is_open → IsTrue old.is_open × (new.committed ≡ old.committed)
