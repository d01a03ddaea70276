-- What is read of a valid dump.
use Rattle.std.proofs.Common.{◌≡◌, ℕ, List, None, Ok, Err, sym, subst}
use Rattle.ixp_registry.specs.declared.registry.Registry.{Registry}
use Rattle.ixp_registry.specs.declared.rows.Rows.{Rows}
use Rattle.ixp_registry.specs.Registries.{rows_of, breach}
use Rattle.ixp_registry.specs.Rules.{addresses_have_interfaces}
use Rattle.ixp_registry_laws.specs.WellFormed.{AreOrdered, HasLists}
use Rattle.ixp_registry_laws.proofs.FromRules.{all_valid}
use Rattle.ixp_registry_laws.proofs.Sentences.{sentences}
use Rattle.ixp_rows_lines.specs.declared.version.Version.{Version}
use Rattle.ixp_rows.specs.declared.fault.DumpFault.{DumpFault}
use Rattle.ixp_rows.specs.declared.fault.DumpFault.TheVariants.{BadLine, Order, Twice, Invalid, NoMemory}
use Rattle.ixp_rows.specs.Answers.{DumpAnswer}
use Rattle.ixp_rows.specs.Texts.{dump_text}
use Rattle.ixp_rows.specs.Dumps.{RegistryAnswer}
use Rattle.ixp_rows.proofs.FieldsRead.{fields_fit}

-- a faulty line of the rows is one of the registry
pub passed : (version : Version) (t : List ℕ) (fault : DumpFault) → DumpAnswer version t (Err fault) → RegistryAnswer version t (Err fault)
passed version t (BadLine n) a = a
passed version t (Order n) a = a
passed version t (Twice n) a = a
passed version t (Invalid rule n) a = absurd a
passed version t NoMemory a = a

-- where no rule is broken, each address has its interface
pub joined : (w : Rows) → breach w ≡ None → addresses_have_interfaces w ≡ None
joined w e = (sentences w e).two.1.1.1.1.0

-- a registry whose rows are those that were read
pub accepted : (version : Version) (t : List ℕ) (w : Rows) (r : Registry) → rows_of r ≡ w → DumpAnswer version t (Ok w) → t ≡ dump_text version w → HasLists r → AreOrdered r → breach w ≡ None
    → RegistryAnswer version t (Ok r)
accepted version t w r same dump text lists ordered none =
    let read = subst (λ x. DumpAnswer version t (Ok x)) (sym same) dump in
    let fit = fields_fit version r read.0.each read.1 lists in
    let unbroken = subst (λ x. breach x ≡ None) (sym same) none in
    (read, subst (λ x. t ≡ dump_text version x) (sym same) text, all_valid r (record { ordered = ordered; fit = fit; listed = lists }) (sentences (rows_of r) unbroken))
