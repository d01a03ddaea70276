-- What reading the dump of a registry answers.
use Rattle.std.specs.Prelude.{◌≡◌, ℕ, List, Option, Some, None, Result, Ok, Err}
use Rattle.ixp_registry.specs.declared.registry.Registry.{Registry}
use Rattle.ixp_registry.specs.declared.rows.Rows.{Rows}
use Rattle.ixp_registry.specs.Registries.{rows_of, breach}
use Rattle.ixp_registry.specs.Valid.{Valid}
use Rattle.ixp_rows_lines.specs.declared.version.Version.{Version}
use Rattle.ixp_rows_lines.specs.declared.version.Version.TheVariants.{One, Two}
use Rattle.ixp_rows.specs.Reading.{head_text, after_text}
use Rattle.ixp_rows.specs.declared.fault.DumpFault.{DumpFault}
use Rattle.ixp_rows.specs.declared.fault.DumpFault.TheVariants.{BadLine, Order, Twice, Invalid, NoMemory}
use Rattle.ixp_rows.specs.Texts.{dump_text}
use Rattle.ixp_rows.specs.Answers.{DumpAnswer}

-- The valid registry whose dump the text is; where the text is a dump of other rows, the lowest rule that
-- they break and the line of the first row that breaks it; else the first faulty line.
abbrev pub RegistryAnswer : Version → List ℕ → Result Registry DumpFault → Type 0
RegistryAnswer version t (Ok r) =
    DumpAnswer version t (Ok (rows_of r)) × (t ≡ dump_text version (rows_of r)) × Valid r
RegistryAnswer version t (Err (Invalid rule line)) =
    (w : Rows) × DumpAnswer version t (Ok w) × (breach w ≡ Some (record { rule = rule; line = line }))
RegistryAnswer version t (Err (BadLine n)) = DumpAnswer version t (Err (BadLine n))
RegistryAnswer version t (Err (Order n)) = DumpAnswer version t (Err (Order n))
RegistryAnswer version t (Err (Twice n)) = DumpAnswer version t (Err (Twice n))
RegistryAnswer version t (Err NoMemory) = DumpAnswer version t (Err NoMemory)

-- the version that a text's first line says: 1 where it is the head of that version, else 2
abbrev pub version_by : Option (List ℕ) → Version
version_by (Some rest) = One
version_by None = Two

abbrev pub version_in : List ℕ → Version
version_in t = version_by (after_text (head_text One) t)
