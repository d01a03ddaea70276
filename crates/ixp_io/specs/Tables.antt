-- The rows that a keeper holds.
use Rattle.std.specs.Prelude.{◌≡◌, ◌++◌, Option, None, Some, List, [], ◌∷◌, ℕ, filter, slice_get}
use Rattle.std.specs.Ordering.{nat_cmp, is_lt}
use Rattle.std.specs.Cmp.Lexicographic.{slice_cmp}
use Rattle.std.specs.FinMap.{FinMap, insert, remove, entries, from_sorted}
use Rattle.std.specs.BTreeMap.{BTreeMap}
use Rattle.std.specs.declared.cmp.Ordering.{Ordering}
use Rattle.ixp_io.specs.declared.keeper.RowName.{RowName}
use Rattle.ixp_io.specs.declared.keeper.Row.{Row}
use Rattle.ixp_io.specs.declared.keeper.Change.{Change}

-- a name as bytes: the kind, then the key
abbrev pub name_bytes : RowName → List ℕ
name_bytes name = name.kind ∷ name.key

-- names are ordered by kind, then by the bytes of the key
abbrev pub name_cmp : RowName → RowName → Ordering
name_cmp a b = slice_cmp nat_cmp (name_bytes a) (name_bytes b)

-- a finite map from names to bodies
abbrev pub Table : Type 0
Table = FinMap name_cmp (List ℕ)

-- the row of a name gets this body, or goes
abbrev pub set : Table → RowName → Option (List ℕ) → Table
set rows name (Some body) = insert rows name body
set rows name None = remove rows name

-- the rows after the changes of a batch, in their order
abbrev pub changed : Table → List Change → Table
changed rows [] = rows
changed rows (change ∷ batch) = changed (set rows change.name change.body) batch

-- the rows of a list whose names are greater than this one, where there is one
abbrev pub rows_after : Option RowName → List (RowName × List ℕ) → List (RowName × List ℕ)
rows_after None rows = rows
rows_after (Some before) rows = filter (λ row. is_lt (name_cmp before row.0)) rows

-- the row with the least name that is greater: the first of them in the order of the names
abbrev pub next_after : Option RowName → Table → Option (RowName × List ℕ)
next_after before rows = slice_get (rows_after before (entries rows)) 0

-- a row as its name and its body
abbrev pub row_entry : Row → RowName × List ℕ
row_entry row = (row.name, row.body)

-- the rows of an ordered map in memory
abbrev pub table_of : BTreeMap RowName (List ℕ) → Table
table_of rows = from_sorted rows.entries

-- after a row comes the one that stands behind it in the order of the names, or none
abbrev pub RowsInOrder : Type 0
RowsInOrder =
    (rows : Table) (before after : List (RowName × List ℕ)) (row : RowName × List ℕ)
    → entries rows ≡ before ++ row ∷ after
    → next_after (Some row.0) rows ≡ slice_get after 0
