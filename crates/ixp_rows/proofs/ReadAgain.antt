-- The text of rows is read as their fields.
use Rattle.std.proofs.Common.{◌≡◌, ℕ, List, Result, Ok, Err, refl, sym, ap, ◌∙◌}
use Rattle.std.specs.List.{AllByRecursion}
use Rattle.ixp_registry.specs.declared.rows.Rows.{Rows}
use Rattle.ixp_rows_lines.specs.declared.version.Version.{Version}
use Rattle.ixp_rows_lines.specs.Fields.{Field}
use Rattle.ixp_rows_lines.specs.Lines.{IsLine}
use Rattle.ixp_rows.specs.declared.misread.Misread.{Misread}
use Rattle.ixp_rows.specs.declared.misread.Misread.TheVariants.{Bad, Order, Twice, NoMemory}
use Rattle.ixp_rows.specs.Reading.{dump_at, fault_of}
use Rattle.ixp_rows.specs.Groups.{row_fields}
use Rattle.ixp_rows.specs.Texts.{dump_text}
use Rattle.ixp_rows.specs.Answers.{row_lines, AllAscend, IsDump}
use Rattle.ixp_rows.proofs.DumpsSpelt.{dump_kinds}
use Rattle.ixp_rows.proofs.KindsApart.{sections_same}
use Rattle.ixp_rows.proofs.RowsTold.{all_kinds}
use Rattle.ixp_rows.proofs.Standing.{section_lines, Faulty}
use Rattle.ixp_rows.proofs.Answering.{DumpStands, dump_stands, row_lines_are}
use Rattle.ixp_rows.proofs.OneAnswer.{rows_some, no_fault, one_dump}
use Rattle.ixp_rows.proofs.PrintedDumps.{printed}

-- a text that is a dump of rows' lines is read as their fields
pub dump_read : (version : Version) (t : List ℕ) (w : Rows) → IsDump version (row_lines version w) t → dump_at version t ≡ Ok (row_fields version w)
dump_read version t w dump = by_read (dump_at version t) (dump_stands version t)
  where
    faultless : (misread : Misread) → Faulty version t misread → ⊥
    faultless (Bad left) faulty = no_fault version t (row_lines version w) (fault_of t (Bad left)) (λ e. absurd cc) (rows_some version w) dump faulty
    faultless (Order left) faulty = no_fault version t (row_lines version w) (fault_of t (Order left)) (λ e. absurd cc) (rows_some version w) dump faulty
    faultless (Twice left) faulty = no_fault version t (row_lines version w) (fault_of t (Twice left)) (λ e. absurd cc) (rows_some version w) dump faulty
    faultless NoMemory faulty = faulty

    by_read : (r : Result (List (List (List Field))) Misread) → DumpStands version t r → r ≡ Ok (row_fields version w)
    by_read (Err misread) faulty = absurd (faultless misread faulty)
    by_read (Ok xss) (stands, each_kind) =
        ap Ok (sections_same version t dump_kinds 0 (all_kinds version t) xss (row_fields version w) each_kind refl
        (one_dump version t (section_lines dump_kinds xss) (row_lines version w) stands dump ∙ sym (row_lines_are version w)))

-- what is printed of rows is read as their fields
pub printed_read : (version : Version) (w : Rows) → AllAscend w → AllByRecursion (IsLine version) (row_lines version w) → dump_at version (dump_text version w) ≡ Ok (row_fields version w)
printed_read version w up lawful = dump_read version (dump_text version w) w (printed version w up lawful)
