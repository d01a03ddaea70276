-- What `upgrade` makes of a store, and which stores are told to be damaged.
use Rattle.std.specs.Prelude.{◌≡◌, ◌⊎◌, ℕ, Option, Some, length}
use Rattle.ixp_io.specs.Faults.{Rose}
use Rattle.ixp_io.specs.Tables.{Table}
use Rattle.ixp_io.specs.Told.{Takes}
use Rattle.ixp_machine_steps.specs.declared.state.State.{State}
use Rattle.ixp_store_rows.specs.States.{tables}
use Rattle.ixp_store_upgrade.specs.Upgrades.{FitsNoVersion}
use Rattle.ixp_store_upgrade.specs.Versions.{IsFirst, tables_1}
use Rattle.ixp_cli_plain.specs.declared.command.Command.{Command}
use Rattle.ixp_cli_plain.specs.declared.command.Command.TheVariants.{Upgrade}
use Rattle.ixp_cli_plain.specs.declared.end.End.{End}
use Rattle.ixp_cli_plain.specs.declared.end.End.TheVariants.{Done, WriteFault, KeeperFault, NoMemory}
use Rattle.ixp_cli_plain.specs.Dumps.{IsDamaged}
use Rattle.ixp_cli_plain.specs.Restores.{Store}
use Rattle.ixp_cli_plain.specs.Runs.{CanBeLoaded, Outside, upgraded_text}

-- A store of the first version of a state becomes today's, and the number is that of its routers; one of
-- today's, or without rows, stays as it is, and the number is 0.
abbrev pub Becomes : Store → Table → ℕ → Type 0
Becomes store now n =
    ((s : State) × IsFirst s × (store.rows ≡ Some (tables_1 s)) × (now ≡ tables s)
    × (n ≡ length s.registry.routers))
    ⊎ (CanBeLoaded store × (store.rows ≡ Some now) × (n ≡ 0))

-- how `upgrade` ends with such a store: it has these rows, and the output took the number; or memory ran out,
-- or a write or the keeper failed
abbrev pub IsRaised : Table → ℕ → Outside → Outside → End → Type 0
IsRaised now n before after Done =
    (after.store.rows ≡ Some now) × Takes before.output.bytes after.output.bytes (upgraded_text n)
IsRaised now n before after WriteFault =
    (after.store.rows ≡ Some now) × Rose before.output.faults after.output.faults
IsRaised now n before after KeeperFault = Rose before.store.faults after.store.faults
IsRaised now n before after NoMemory = Unit {0}
IsRaised now n before after end = ⊥

-- the status is 0, the store has these rows, and the output took the number; or memory ran out
abbrev pub IsWholeRaise : Table → ℕ → Outside → Outside → ℕ → Type 0
IsWholeRaise now n before after status =
    (status ≡ 8) ⊎ ((status ≡ 0) × (after.store.rows ≡ Some now)
    × Takes before.output.bytes after.output.bytes (upgraded_text n))

-- what a command tells to be damaged: `upgrade` rows that are those of a state in neither version
abbrev pub IsDamagedFor : Option Command → Table → Type 0
IsDamagedFor (Some Upgrade) rows = FitsNoVersion rows
IsDamagedFor command rows = IsDamaged rows
