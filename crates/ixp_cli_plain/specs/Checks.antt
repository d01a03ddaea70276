-- What `check` makes of an input.
use Rattle.std.specs.Prelude.{◌≡◌, ℕ, List, [], ◌∷◌, ◌++◌, Some, Ok, Err, codes, decimal}
use Rattle.ixp_num.specs.declared.cause.Cause.{Cause}
use Rattle.ixp_registry.specs.declared.registry.Registry.{Registry}
use Rattle.ixp_registry.specs.Registries.{rows_of}
use Rattle.ixp_rows.specs.declared.fault.DumpFault.{DumpFault}
use Rattle.ixp_rows.specs.Causes.{cause_of}
use Rattle.ixp_rows.specs.Dumps.{RegistryAnswer, version_in}
use Rattle.ixp_rows.specs.Texts.{rows_count}

-- `ok` and the number of rows
abbrev pub ok_text : ℕ → List ℕ
ok_text rows = codes "ok " ++ (decimal rows ++ 10 ∷ [])

-- the input is the dump of a valid registry, and the output says how many rows that has
pub record Checks (input output : List ℕ) : Type 0 where
  pub registry : Registry
  pub is_dump : RegistryAnswer (version_in input) input (Ok registry)
  pub is_output : output ≡ ok_text (rows_count (rows_of registry))

-- the text is the dump of some valid registry
abbrev pub IsDump : List ℕ → Type 0
IsDump t = (registry : Registry) × RegistryAnswer (version_in t) t (Ok registry)

-- why the text is the dump of none
abbrev pub IsNoDump : List ℕ → Cause → Type 0
IsNoDump t cause = (fault : DumpFault) × (cause_of fault ≡ Some cause)
    × RegistryAnswer (version_in t) t (Err fault)
