-- What `restore` does with the dump of a registry and a keeper.
use Rattle.std.specs.Prelude.{◌≡◌, ◌≢◌, ℕ, List, [], ◌∷◌, ◌++◌, Option, Ok, codes, decimal}
use Rattle.std.specs.FinMap.{empty}
use Rattle.ixp_io.specs.Tables.{Table}
use Rattle.ixp_io.specs.Told.{Told, WhereTold}
use Rattle.ixp_machine_steps.specs.Openings.{first_state}
use Rattle.ixp_registry.specs.declared.registry.Registry.{Registry}
use Rattle.ixp_registry.specs.Registries.{rows_of}
use Rattle.ixp_rows.specs.Dumps.{RegistryAnswer, version_in}
use Rattle.ixp_rows.specs.Texts.{rows_count}
use Rattle.ixp_store_rows.specs.States.{tables}
use Rattle.ixp_cli_plain.specs.declared.restore.NoDump.{NoDump}
use Rattle.ixp_cli_plain.specs.declared.restore.NoDump.TheVariants as dump
use Rattle.ixp_cli_plain.specs.Checks.{IsNoDump}

-- what the keeper tells at a moment: its rows, and how many calls failed
pub record Store : Type 0 where
  pub rows : Option Table
  pub faults : ℕ

-- the text is the dump of this valid registry
abbrev pub IsDumpOf : List ℕ → Registry → Type 0
IsDumpOf t r = RegistryAnswer (version_in t) t (Ok r)

-- the keeper had no row, and has those of the registry's first state: no request was accepted
abbrev pub Fills : Registry → Store → Store → Type 0
Fills r before after = Told before.rows after.rows (λ old now. (old ≡ empty) × (now ≡ tables (first_state r)))

-- the keeper had some row
abbrev pub IsFilled : Store → Type 0
IsFilled before = WhereTold before.rows (λ rows. rows ≢ empty)

-- what is written: `restored` and the number of lines
abbrev pub Restores : Registry → List ℕ
Restores r = codes "restored " ++ (decimal (rows_count (rows_of r)) ++ 10 ∷ [])

-- why the text is the dump of no registry, or memory ran out
abbrev pub IsUndumped : List ℕ → NoDump → Type 0
IsUndumped t dump.ReadFault = ⊥
IsUndumped t (dump.Bad cause) = IsNoDump t cause
IsUndumped t dump.NoMemory = Unit {0}
