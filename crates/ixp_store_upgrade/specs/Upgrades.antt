-- What an upgrade of a store does, and which stores it tells to be damaged.
use Rattle.std.specs.Prelude.{◌≡◌, ◌≢◌, ◌⊎◌, ℕ, Option, Some, length, codes, Result, Ok, Err}
use Rattle.std.specs.FinMap.{empty, get}
use Rattle.ixp_io.specs.Tables.{Table}
use Rattle.ixp_machine_steps.specs.declared.state.State.{State}
use Rattle.ixp_machine_steps.specs.States.{ValidState}
use Rattle.ixp_store_rows.specs.Names.{version_name}
use Rattle.ixp_store_rows.specs.States.{tables}
use Rattle.ixp_store_words.specs.declared.fault.LoadFault.{LoadFault}
use Rattle.ixp_store_words.specs.declared.fault.LoadFault.TheVariants.{KeeperFault, Damaged, OldVersion, NoMemory}
use Rattle.ixp_store_words.specs.Storing.{IsStorable}
use Rattle.ixp_store_damage.specs.Damages.{FitsNoState, TellsRow}
use Rattle.ixp_store_upgrade.specs.Versions.{IsFirst, tables_1, table_now}

-- the row of the version says 1
abbrev pub IsOld : Table → Type 0
IsOld rows = get rows version_name ≡ Some (codes "1")

-- today's store of a state to which requests lead, or one without rows
abbrev pub IsToday : Table → Type 0
IsToday rows = (rows ≡ empty) ⊎ ((s : State) × ValidState s × IsStorable s × (rows ≡ tables s))

-- A store of the first version becomes today's store of the same state, and the number is that of its
-- routers. One of today's stays as it is, and the number is 0.
abbrev pub Upgrades : ℕ → Table → Table → Type 0
Upgrades n before now =
    ((s : State) × IsFirst s × (before ≡ tables_1 s) × (now ≡ tables s) × (n ≡ length s.registry.routers))
    ⊎ (IsToday before × (now ≡ before) × (n ≡ 0))

-- there are rows, but in neither version are they those of a state
pub record FitsNoVersion (rows : Table) : Type 0 where
  pub some : rows ≢ empty
  pub today : FitsNoState rows
  pub first : (s : State) → IsFirst s → rows ≢ tables_1 s

-- Which row is told to be damaged: that which a load tells, where a store of the first version is loaded as
-- the rows of today's that it would be.
abbrev pub TellsDamaged : Result ℕ LoadFault → Table → Type 0
TellsDamaged (Err (Damaged name damage)) rows =
    FitsNoVersion rows × ((¬ (IsOld rows) × TellsRow (Err (Damaged name damage)) rows)
    ⊎ (IsOld rows × TellsRow (Err (Damaged name damage)) (table_now rows)))
TellsDamaged answer rows = Unit {0}

-- the number is the answer, but that memory may run out and the keeper may fail
abbrev pub IsUpgraded : ℕ → Result ℕ LoadFault → Type 0
IsUpgraded n (Ok m) = m ≡ n
IsUpgraded n (Err KeeperFault) = Unit {0}
IsUpgraded n (Err NoMemory) = Unit {0}
IsUpgraded n (Err fault) = ⊥

-- What can be upgraded is: the rows of a state, in either version, and no row, of which nothing is set.
pub record UpgradesAll (rows : Option Table) (r : Result ℕ LoadFault) : Type 0 where
  pub first : (s : State) → IsFirst s → rows ≡ Some (tables_1 s) → IsUpgraded (length s.registry.routers) r
  pub today : (s : State) → ValidState s → IsStorable s → rows ≡ Some (tables s) → IsUpgraded 0 r
  pub nothing : rows ≡ Some empty → IsUpgraded 0 r
