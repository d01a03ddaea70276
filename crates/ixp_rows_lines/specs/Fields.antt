-- The fields of a line, and the one text of each.
use Rattle.std.specs.Prelude.{◌≡◌, ◌≢◌, ℕ, ◌<◌, ◌^◌, ◌⊎◌, Bool, ◌||◌, ◌==◌, true, List, [], ◌∷◌, ◌++◌, decimal, codes}
use Rattle.std.specs.List.{AllByRecursion, list_any}
use Rattle.ixp_num.specs.declared.family.Family.{Family}
use Rattle.ixp_num.specs.declared.family.Family.TheVariants.{V4}
use Rattle.ixp_num.specs.Families.{bits_of, IsPrefix}
use Rattle.ixp_num.specs.Names.{is_name}
use Rattle.ixp_num.specs.Printing.{value_text}
use Rattle.percent_encoding.specs.Percent.{percent_encode}
use Rattle.ixp_num_tables.specs.Tables.{same}
use Rattle.ixp_registry.specs.Widths.{IsByte}
use Rattle.ixp_rows_lines.specs.declared.free.TheConstants.{ESCAPED}

pub data Field : Type 0 where
  -- a number of 32 or of 8 bits, in decimal
  Number : (n : ℕ) → Field
  Octet : (n : ℕ) → Field
  -- a word as it is
  Word : (word : List ℕ) → Field
  -- any bytes
  Free : (t : List ℕ) → Field
  -- bytes as they are, `-` for none
  Secret : (t : List ℕ) → Field
  -- a name as it is
  Handle : (t : List ℕ) → Field
  Address : (family : Family) → (value : ℕ) → Field
  Net : (family : Family) → (value len : ℕ) → Field
  -- a pattern with its bounds
  Bounds : (family : Family) → (value len low high : ℕ) → Field

-- a text, or `-` where it is empty
abbrev pub or_dash : List ℕ → List ℕ
or_dash [] = codes "-"
or_dash (c ∷ cs) = c ∷ cs

-- any bytes: percent-encoded (URL Standard section 1.3) but for letters, digits, `.`, `_`, `:` and `/`
abbrev pub free_text : List ℕ → List ℕ
free_text t = or_dash (percent_encode ESCAPED t)

abbrev pub prefix_value_text : Family → ℕ → ℕ → List ℕ
prefix_value_text family value len = value_text family value ++ 47 ∷ decimal len

abbrev pub field_text : Field → List ℕ
field_text (Number n) = decimal n
field_text (Octet n) = decimal n
field_text (Word word) = word
field_text (Free t) = free_text t
field_text (Secret t) = or_dash t
field_text (Handle t) = t
field_text (Address family value) = value_text family value
field_text (Net family value len) = prefix_value_text family value len
field_text (Bounds family value len low high) =
    prefix_value_text family value len ++ 123 ∷ (decimal low ++ 44 ∷ (decimal high ++ 125 ∷ []))

-- What a field of a line may be.
pub data Piece : Type 0 where
  ANumber : Piece
  AnOctet : Piece
  -- one of these words
  OneOf : (words : List (List ℕ)) → Piece
  AFree : Piece
  ASecret : Piece
  AHandle : Piece
  AnAddress : Piece
  -- an address of IPv4, as a router's identifier is written
  AnIdentifier : Piece
  ANet : Piece
  ABounds : Piece
  -- this word for none, or the other
  Or : (word : List ℕ) → Piece → Piece

-- a byte that parts fields or lines
abbrev pub is_break : ℕ → Bool
is_break c = c == 32 || c == 10

-- the field is of the kind
abbrev pub Fits : Piece → Field → Type 0
Fits ANumber (Number n) = n < 2 ^ 32
Fits AnOctet (Octet n) = n < 2 ^ 8
Fits (OneOf words) (Word word) = list_any (same word) words ≡ true
Fits AFree (Free t) = AllByRecursion IsByte t
Fits ASecret (Secret t) = (list_any is_break t ≢ true) × (t ≢ codes "-")
Fits AHandle (Handle t) = is_name t ≡ true
Fits AnAddress (Address family value) = value < 2 ^ bits_of family
Fits AnIdentifier (Address V4 value) = value < 2 ^ 32
Fits ANet (Net family value len) = IsPrefix family value len
Fits ABounds (Bounds family value len low high) = IsPrefix family value len × (low < 2 ^ 8) × (high < 2 ^ 8)
Fits (Or word piece) (Word w) = (w ≡ word) ⊎ Fits piece (Word w)
Fits (Or word piece) field = Fits piece field
Fits piece field = ⊥

-- the fields are of these kinds, one after the other
abbrev pub AllFit : List Piece → List Field → Type 0
AllFit [] [] = Unit {0}
AllFit [] (field ∷ fields) = ⊥
AllFit (piece ∷ form) [] = ⊥
AllFit (piece ∷ form) (field ∷ fields) = Fits piece field × AllFit form fields
