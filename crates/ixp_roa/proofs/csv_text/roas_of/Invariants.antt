use Rattle.std.proofs.Common.{◌≡◌, ◌<◌, ℕ, List, Some}
use Rattle.csv.specs.Reading.{Reached, Ready, default_config, source_of, strip_bom}
use Rattle.csv.specs.declared.parser.State.TheVariants as st
use Rattle.csv.specs.declared.reader.Trim.TheVariants as trim
use Rattle.ixp_roa.specs.CsvRoas.{AreRead}
use Rattle.ixp_roa.proofs.csv_text.roas_of.Given as goal

-- the rows so far lead from the text's beginning to where the reader is, and are the ROAs behind a header
abbrev pub invariant-loop-row : goal.invariant-loop-row
invariant-loop-row l =
    (l.row-iterator.rdr.trim ≡ trim.None) × Ready l.row-iterator.rdr × (0 < l.row-iterator.left) × (l.row-iterator.rdr.config ≡ default_config)
    × (y : List ℕ) × (source_of (λ s. Some s.now) l.row-iterator.rdr ≡ Some y)
    × (rows : List (List (List ℕ))) × Reached default_config st.StartRecord (strip_bom l.fn.t) rows l.row-iterator.rdr.state y
    × AreRead rows l.before l.roas.items
