-- Which rows of a keeper have been read, and which comes next. Nobody needs to believe these: they serve
-- proofs.
use Rattle.std.specs.Prelude.{◌≡◌, ◌++◌, ◌-◌, ℕ, List, [], ◌∷◌, length, slice_get, Option, Some, None, option_map, map, Bool, true}
use Rattle.std.specs.FinMap.{entries}
use Rattle.std.specs.Option.{option_map_or}
use Rattle.std.specs.Ordering.{is_lt}
use Rattle.ixp_io.specs.declared.keeper.Row.{Row}
use Rattle.ixp_io.specs.declared.keeper.RowName.{RowName}
use Rattle.ixp_io.specs.Tables.{Table, name_cmp, row_entry}

-- the name of the last of the rows
abbrev pub name_before : List Row → Option RowName
name_before rows = option_map (λ r. r.name) (slice_get rows (length rows - 1))

-- the rows are the first ones of the table
abbrev pub IsFront : Table → List Row → Type 0
IsFront t rows = (rest : List (RowName × List ℕ)) × (entries t ≡ map row_entry rows ++ rest)

-- where rows are the first ones, all of them are there, or with this one they still are the first ones
abbrev pub ComesNext : Table → List Row → Option Row → Type 0
ComesNext t rows None = IsFront t rows → map row_entry rows ≡ entries t
ComesNext t rows (Some row) = IsFront t rows → IsFront t (rows ++ row ∷ [])

-- the row's name is above that of the last row
abbrev pub above_last : List Row → Row → Bool
above_last rows row = option_map_or (λ l. is_lt (name_cmp l.name row.name))
    (slice_get rows (length rows - 1)) true
