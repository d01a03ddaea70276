-- Which stores `dump` writes the registry of, and which are told to be damaged or old.
use Rattle.std.specs.Prelude.{◌≡◌, ◌≢◌, ◌⊎◌, ℕ, List, Option, Some, codes}
use Rattle.std.specs.FinMap.{empty, get}
use Rattle.ixp_io.specs.Faults.{Rose}
use Rattle.ixp_io.specs.Tables.{Table}
use Rattle.ixp_io.specs.Told.{Takes}
use Rattle.ixp_registry.specs.Registries.{rows_of}
use Rattle.ixp_rows_lines.specs.declared.version.Version.TheVariants.{Two}
use Rattle.ixp_rows.specs.Texts.{dump_text}
use Rattle.ixp_machine_steps.specs.Openings.{first_state}
use Rattle.ixp_machine_steps.specs.declared.state.State.{State}
use Rattle.ixp_machine_steps.specs.States.{ValidState}
use Rattle.ixp_store_rows.specs.Names.{version_name}
use Rattle.ixp_store_rows.specs.States.{tables}
use Rattle.ixp_store_words.specs.Answers.{empty_registry}
use Rattle.ixp_store_words.specs.Storing.{IsStorable}
use Rattle.ixp_store_damage.specs.Damages.{FitsNoState}
use Rattle.ixp_cli_plain.specs.declared.end.End.{End}
use Rattle.ixp_cli_plain.specs.declared.end.End.TheVariants.{Done, WriteFault, KeeperFault, NoMemory}
use Rattle.ixp_cli_plain.specs.Restores.{Store}
use Rattle.ixp_cli_plain.specs.Runs.{Outside}

-- the store has the rows of this state, to which requests lead; or it has none, and this is the first state
-- of the registry without rows
abbrev pub IsStoredAs : Store → State → Type 0
IsStoredAs store s =
    (ValidState s × IsStorable s × (store.rows ≡ Some (tables s)))
    ⊎ ((store.rows ≡ Some empty) × (s ≡ first_state empty_registry))

-- the row of the version says 1
abbrev pub IsOld : Table → Type 0
IsOld rows = get rows version_name ≡ Some (codes "1")

-- there are rows, but those of no state that requests lead to, and they aren't an older version's
abbrev pub IsDamaged : Table → Type 0
IsDamaged rows = (rows ≢ empty) × FitsNoState rows × ¬ (IsOld rows)

-- the dump of a state's registry
abbrev pub dump_of : State → List ℕ
dump_of s = dump_text Two (rows_of s.registry)

-- how `dump` ends with the store of this state: the output took the dump of its registry, or memory ran out,
-- or a write or the keeper failed
abbrev pub IsDumped : State → Outside → Outside → End → Type 0
IsDumped s before after Done = Takes before.output.bytes after.output.bytes (dump_of s)
IsDumped s before after WriteFault = Rose before.output.faults after.output.faults
IsDumped s before after KeeperFault = Rose before.store.faults after.store.faults
IsDumped s before after NoMemory = Unit {0}
IsDumped s before after end = ⊥

-- the status is this one, or that memory ran out, or that the keeper failed
abbrev pub IsStatusOr : ℕ → Store → Store → Option ℕ → Type 0
IsStatusOr n before after status =
    (status ≡ Some n) ⊎ ((status ≡ Some 8) ⊎ ((status ≡ Some 5) × Rose before.faults after.faults))

-- the status is 0 and the output took all of this text, or memory ran out
abbrev pub IsWhole : List ℕ → Outside → Outside → ℕ → Type 0
IsWhole text before after status =
    (status ≡ 8) ⊎ ((status ≡ 0) × Takes before.output.bytes after.output.bytes text)
