-- What rows that were read are opened as. Nobody needs to believe these: they serve proofs.
use Rattle.std.specs.Prelude.{◌≡◌, ℕ, ◌==◌, ◌&&◌, ◌⊎◌, Bool, true, false, List, [], ◌∷◌, length, map, codes, Result, Ok, Err}
use Rattle.std.specs.List.Sorted.{IsPermutation}
use Rattle.ixp_io.specs.declared.keeper.Row.{Row}
use Rattle.ixp_io.specs.declared.keeper.Change.{Change}
use Rattle.ixp_io.specs.Tables.{name_bytes, row_entry}
use Rattle.ixp_num_tables.specs.Tables.{Ascends, same}
use Rattle.ixp_machine_steps.specs.Openings.{first_state}
use Rattle.ixp_machine_steps.specs.declared.state.State.{State}
use Rattle.ixp_store_rows.specs.Names.{Entry}
use Rattle.ixp_store_rows.specs.States.{set_row, stored_rows}
use Rattle.ixp_store_words.specs.declared.fault.LoadFault.{LoadFault}
use Rattle.ixp_store_words.specs.declared.fault.LoadFault.TheVariants.{KeeperFault, Damaged, OldVersion, NoMemory}
use Rattle.ixp_store_words.specs.declared.fault.NoState.{NoState}
use Rattle.ixp_store_words.specs.declared.fault.NoState.TheVariants.{NoMemory as NoMem}
use Rattle.ixp_store_words.specs.Answers.{empty_registry}
use Rattle.ixp_store_words.specs.Sorting.{Same}

-- the first row is that of version 1
abbrev pub is_old : List Row → Bool
is_old [] = false
is_old (row ∷ rows) = row.name.kind == 0 && length row.name.key == 0 && same row.body (codes "1")

-- the rows are those of the state, or none
abbrev pub IsFirstOrOf : State → List Row → Type 0
IsFirstOrOf s rows = ((rows ≡ []) × (s ≡ first_state empty_registry))
    ⊎ IsPermutation (map set_row (stored_rows s)) (map set_row (map row_entry rows))

-- what the answer says of the version
abbrev pub SaysVersion : Result State LoadFault → List Row → Type 0
SaysVersion (Ok s) rows = is_old rows ≡ false
SaysVersion (Err KeeperFault) rows = Unit {0}
SaysVersion (Err (Damaged name damage)) rows = is_old rows ≡ false
SaysVersion (Err (OldVersion found)) rows = (found ≡ 1) × (is_old rows ≡ true)
SaysVersion (Err NoMemory) rows = Unit {0}

-- the rows are all those of the state, in the order of their names
abbrev pub entry_name : Entry → List ℕ
entry_name e = name_bytes e.0

abbrev pub change_name : Change → List ℕ
change_name c = name_bytes c.name

pub record AreAllRows (s : State) (es : List Entry) : Type 0 where
  pub same : Same es (stored_rows s)
  pub order : Ascends entry_name es

-- the state is the answer, but that memory may run out
abbrev pub IsTold : State → Result State NoState → Type 0
IsTold s (Ok r) = r ≡ s
IsTold s (Err NoMem) = Unit {0}
IsTold s (Err fault) = ⊥

-- the row says how many requests were accepted
abbrev pub is_count : Row → Bool
is_count row = row.name.kind == 20 && length row.name.key == 0

-- the row is the version's
abbrev pub is_version : Row → Bool
is_version row = row.name.kind == 0 && length row.name.key == 0
