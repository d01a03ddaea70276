-- Which ROAs a CSV text lists: in its first three columns an AS number, a prefix, and a max length or
-- nothing.
use Rattle.std.specs.Prelude.{◌≡◌, ℕ, ◌+◌, ◌<◌, ◌≤◌, Bool, false, ◌&&◌, ◌==◌, List, [], ◌∷◌, ◌++◌, length, Result, Ok, Err, codes, if◌then◌else◌}
use Rattle.std.specs.Global.{Vec}
use Rattle.std.specs.Str.{bytes_eq}
use Rattle.csv.specs.Reading.{AreRecords, default_config, strip_bom}
use Rattle.csv.specs.declared.parser.State.TheVariants as state
use Rattle.ixp_num.specs.declared.asn.Asn.{Asn}
use Rattle.ixp_num.specs.declared.prefix.Prefix.{Prefix}
use Rattle.ixp_num.specs.declared.roa.Roa.{Roa}
use Rattle.ixp_num.specs.Families.{bits_of}
use Rattle.ixp_num.specs.Forms.{IsDecimal}
use Rattle.ixp_num.specs.Answers.{AsnAnswer, PrefixAnswer}
use Rattle.ixp_num_sorted.specs.Keys.{roa_key}
use Rattle.ixp_num_sorted.specs.Sorted.{IsInOrder}
use Rattle.ixp_roa.specs.declared.fault.Misfit.{Misfit}
use Rattle.ixp_roa.specs.declared.fault.Misfit.TheVariants as misfit
use Rattle.ixp_roa.specs.declared.fault.RoaFault.{RoaFault}
use Rattle.ixp_roa.specs.declared.fault.RoaFault.TheVariants as fault

-- `AS` may stand before a number
abbrev pub without_as : List ℕ → List ℕ
without_as [] = []
without_as (a ∷ []) = a ∷ []
without_as (a ∷ b ∷ rest) = if a == 65 && b == 83 then rest else a ∷ b ∷ rest

-- a decimal number, or nothing for the prefix's length
abbrev pub IsMaxField : List ℕ → Prefix → ℕ → Type 0
IsMaxField [] net max = max ≡ net.len
IsMaxField (c ∷ cs) net max = IsDecimal (c ∷ cs) max

-- the three fields say an AS number, a prefix and a max length
abbrev pub SayRoa : List ℕ → List ℕ → List ℕ → Asn → Prefix → ℕ → Type 0
SayRoa asn net max a p n = AsnAnswer (without_as asn) (Ok a) × PrefixAnswer net (Ok p) × IsMaxField max p n

-- the length is one that prefixes within this one can have
abbrev pub IsLength : Prefix → ℕ → Type 0
IsLength p n = (p.len ≤ n) × (n ≤ bits_of p.family)

-- what three fields are: a ROA; of another form; or one whose max length is out of its bounds
abbrev pub FieldsAnswer : List ℕ → List ℕ → List ℕ → Result Roa Misfit → Type 0
FieldsAnswer asn net max (Ok r) = SayRoa asn net max r.asn r.prefix r.max × IsLength r.prefix r.max
FieldsAnswer asn net max (Err misfit.Form) = ¬ ((a : Asn) × (p : Prefix) × (n : ℕ) × SayRoa asn net max a p n)
FieldsAnswer asn net max (Err misfit.MaxLength) =
    (a : Asn) × (p : Prefix) × (n : ℕ) × SayRoa asn net max a p n × ¬ (IsLength p n)

-- a row has at least three fields
abbrev pub RowAnswer : List (List ℕ) → Result Roa Misfit → Type 0
RowAnswer [] r = r ≡ Err misfit.Form
RowAnswer (asn ∷ []) r = r ≡ Err misfit.Form
RowAnswer (asn ∷ net ∷ []) r = r ≡ Err misfit.Form
RowAnswer (asn ∷ net ∷ max ∷ more) r = FieldsAnswer asn net max r

-- each row is a ROA
abbrev pub AreRoas : List (List (List ℕ)) → List Roa → Type 0
AreRoas [] [] = Unit {0}
AreRoas [] (r ∷ rs) = ⊥
AreRoas (row ∷ rows) [] = ⊥
AreRoas (row ∷ rows) (r ∷ rs) = RowAnswer row (Ok r) × AreRoas rows rs

-- rows behind so many rows of a header: ROAs, or the place of the first that is none
abbrev pub MisfitIn : List (List (List ℕ)) → ℕ → Misfit → ℕ → Type 0
MisfitIn rows skipped why n =
    (before : List Roa) × (good : List (List (List ℕ))) × (row : List (List ℕ))
    × (after : List (List (List ℕ)))
    × (rows ≡ good ++ row ∷ after) × AreRoas good before × RowAnswer row (Err why)
    × (n ≡ skipped + length good + 1)

-- a first row that begins with `ASN` is a header
abbrev pub is_header : List (List ℕ) → Bool
is_header [] = false
is_header (field ∷ fields) = bytes_eq field (codes "ASN")

abbrev pub under_header : List (List (List ℕ)) → List (List (List ℕ))
under_header [] = []
under_header (row ∷ rows) = if is_header row then rows else row ∷ rows

abbrev pub header_rows : List (List (List ℕ)) → ℕ
header_rows [] = 0
header_rows (row ∷ rows) = if is_header row then 1 else 0

-- the first row that is no ROA, counted from 1 with the header
abbrev pub FirstMisfit : List (List (List ℕ)) → Misfit → ℕ → Type 0
FirstMisfit rows why n = MisfitIn (under_header rows) (header_rows rows) why n

-- the same ROAs in the order of their keys and each once, if there are at most so many
abbrev pub OrderedAnswer : ℕ → List Roa → Result (List Roa) RoaFault → Type 0
OrderedAnswer most all (Ok rs) = IsInOrder roa_key all rs × (length rs ≤ most)
OrderedAnswer most all (Err (fault.TooMany have)) =
    (rs : List Roa) × IsInOrder roa_key all rs × (have ≡ length rs) × (most < have)
OrderedAnswer most all (Err (fault.Row n)) = ⊥
OrderedAnswer most all (Err (fault.MaxLength n)) = ⊥
OrderedAnswer most all (Err fault.NoMemory) = ⊥

-- what rows are: a list of ROAs, a misfit at the first row that is none, or too many
abbrev pub RowsAnswer : ℕ → List (List (List ℕ)) → Result (List Roa) RoaFault → Type 0
RowsAnswer most rows (Ok rs) =
    (all : List Roa) × AreRoas (under_header rows) all × OrderedAnswer most all (Ok rs)
RowsAnswer most rows (Err (fault.Row n)) = FirstMisfit rows misfit.Form n
RowsAnswer most rows (Err (fault.MaxLength n)) = FirstMisfit rows misfit.MaxLength n
RowsAnswer most rows (Err (fault.TooMany have)) =
    (all : List Roa) × AreRoas (under_header rows) all × OrderedAnswer most all (Err (fault.TooMany have))
RowsAnswer most rows (Err fault.NoMemory) = Unit {0}

-- The rows of the text are such (RFC 4180, as the csv crate reads it).
abbrev pub ListAnswer : ℕ → List ℕ → Result (List Roa) RoaFault → Type 0
ListAnswer most t (Err fault.NoMemory) = Unit {0}
ListAnswer most t (Ok rs) = (rows : List (List (List ℕ)))
    × AreRecords default_config state.StartRecord (strip_bom t) rows × RowsAnswer most rows (Ok rs)
ListAnswer most t (Err (fault.Row n)) = (rows : List (List (List ℕ)))
    × AreRecords default_config state.StartRecord (strip_bom t) rows
    × RowsAnswer most rows (Err (fault.Row n))
ListAnswer most t (Err (fault.MaxLength n)) =
    (rows : List (List (List ℕ))) × AreRecords default_config state.StartRecord (strip_bom t) rows
    × RowsAnswer most rows (Err (fault.MaxLength n))
ListAnswer most t (Err (fault.TooMany n)) =
    (rows : List (List (List ℕ))) × AreRecords default_config state.StartRecord (strip_bom t) rows
    × RowsAnswer most rows (Err (fault.TooMany n))

-- with at most a million ROAs
abbrev pub CsvAnswer : List ℕ → Result (List Roa) RoaFault → Type 0
CsvAnswer t r = ListAnswer 1000000 t r

-- the same before the ROAs are put in order and counted
abbrev pub TextAnswer : List ℕ → Result (Vec Roa) RoaFault → Type 0
TextAnswer t (Err fault.NoMemory) = Unit {0}
TextAnswer t (Ok rs) = (rows : List (List (List ℕ)))
    × AreRecords default_config state.StartRecord (strip_bom t) rows × AreRoas (under_header rows) rs.items
TextAnswer t (Err (fault.Row n)) = (rows : List (List (List ℕ)))
    × AreRecords default_config state.StartRecord (strip_bom t) rows × FirstMisfit rows misfit.Form n
TextAnswer t (Err (fault.MaxLength n)) = (rows : List (List (List ℕ)))
    × AreRecords default_config state.StartRecord (strip_bom t) rows × FirstMisfit rows misfit.MaxLength n
TextAnswer t (Err (fault.TooMany n)) = ⊥

-- these ROAs behind so many rows of a header are all of the rows
abbrev pub AreRead : List (List (List ℕ)) → ℕ → List Roa → Type 0
AreRead rows before roas = AreRoas (under_header rows) roas × (before ≡ header_rows rows) × (before ≤ 1)

-- one more row: the header and the ROAs with it, or the first misfit, whatever follows
abbrev pub RowTaken : List (List (List ℕ)) → List (List ℕ) → List Roa → Result ℕ RoaFault → Type 0
RowTaken rows row roas (Ok before) = AreRead (rows ++ row ∷ []) before roas
RowTaken rows row roas (Err (fault.Row n)) =
    (rest : List (List (List ℕ))) → FirstMisfit (rows ++ row ∷ rest) misfit.Form n
RowTaken rows row roas (Err (fault.MaxLength n)) =
    (rest : List (List (List ℕ))) → FirstMisfit (rows ++ row ∷ rest) misfit.MaxLength n
RowTaken rows row roas (Err (fault.TooMany n)) = ⊥
RowTaken rows row roas (Err fault.NoMemory) = Unit {0}
