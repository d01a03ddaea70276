-- What the readers of lines compute, on lists.
use Rattle.std.specs.Prelude.{◌≡◌, ℕ, ◌^◌, ◌-◌, ◌%◌, Bool, ◌&&◌, ◌==◌, true, nat_lt, nat_le, List, [], ◌∷◌, take, drop, Option, Some, None, Result, Ok, Err, if◌then◌else◌, codes}
use Rattle.std.specs.List.{list_any, position}
use Rattle.ixp_num.specs.declared.family.Family.{Family}
use Rattle.ixp_num.specs.declared.family.Family.TheVariants.{V4, V6}
use Rattle.ixp_num.specs.Families.{bits_of}
use Rattle.ixp_num.specs.Names.{is_name}
use Rattle.ixp_num.specs.Forms.{Form, Said}
use Rattle.ixp_num.specs.AddressForms.{asn_form}
use Rattle.ixp_num.specs.TextForms.{addr_form, net_form, pattern_form}
use Rattle.ixp_num.specs.Reading.{read}
use Rattle.percent_encoding.specs.Percent.{percent_decode}
use Rattle.ixp_num_tables.specs.Tables.{same}
use Rattle.ixp_rows_lines.specs.declared.fault.Unread.{Unread}
use Rattle.ixp_rows_lines.specs.declared.fault.Unread.TheVariants.{Bad, NoMemory}
use Rattle.ixp_rows_lines.specs.declared.words.OwnerKind.{OwnerKind}
use Rattle.ixp_rows_lines.specs.declared.words.OwnerKind.TheVariants.{Staff, Member as Of}
use Rattle.ixp_rows_lines.specs.Lines.{owner_kinds}
use Rattle.ixp_rows_lines.specs.Fields.{Field, Number, Octet, Word, Free, Secret, Handle, Address, Net, Bounds, field_text, is_break, Piece, ANumber, AnOctet, OneOf, AFree, ASecret, AHandle, AnAddress, AnIdentifier, ANet, ABounds, Or}

infixl 10 ◌>>=◌
abbrev pub ◌>>=◌ : {A B : Type 0} → Option A → (A → Option B) → Option B
None >>= f = None
Some a >>= f = f a

-- the numbers that a text of the form says, none where it is no such text
abbrev pub numbers_with : Result Said ℕ → List ℕ
numbers_with (Ok (Ok ns)) = ns
numbers_with (Ok (Err left)) = []
numbers_with (Err left) = []

unfoldable pub numbers_in : Form → List ℕ → List ℕ
numbers_in form t = numbers_with (read form t)

-- the field, where it is lawful and the text is its own
abbrev pub kept : Bool → Field → List ℕ → Option Field
kept lawful field t = if lawful && same (field_text field) t then Some field else None

abbrev pub family_of : ℕ → Family
family_of version = if version == 4 then V4 else V6

abbrev pub number_with : List ℕ → Option Field
number_with (n ∷ []) = Some (Number n)
number_with ns = None

abbrev pub octet_with : Field → Option Field
octet_with (Number n) = if nat_lt n 256 then Some (Octet n) else None
octet_with field = None

abbrev pub address_with : List ℕ → List ℕ → Option Field
address_with (v ∷ value ∷ len ∷ low ∷ high ∷ []) t =
    kept (nat_lt value (2 ^ bits_of (family_of v))) (Address (family_of v) value) t
address_with ns t = None

abbrev pub is_prefix : Family → ℕ → ℕ → Bool
is_prefix family value len = nat_le len (bits_of family) && nat_lt value (2 ^ bits_of family)
    && value % 2 ^ (bits_of family - len) == 0

abbrev pub net_with : List ℕ → List ℕ → Option Field
net_with (v ∷ value ∷ len ∷ low ∷ high ∷ []) t =
    kept (is_prefix (family_of v) value len) (Net (family_of v) value len) t
net_with ns t = None

abbrev pub bounds_with : List ℕ → List ℕ → Option Field
bounds_with (v ∷ value ∷ len ∷ low ∷ high ∷ []) t =
    kept (is_prefix (family_of v) value len && nat_lt low 256
    && nat_lt high 256) (Bounds (family_of v) value len low high) t
bounds_with ns t = None

abbrev pub without_dash : List ℕ → List ℕ
without_dash t = if same t (codes "-") then [] else t

abbrev pub secret_in : List ℕ → Option Field
secret_in [] = None
secret_in (c ∷ cs) = Some (Secret (without_dash (c ∷ cs)))

abbrev pub identifier_with : Field → Option Field
identifier_with (Address V4 value) = Some (Address V4 value)
identifier_with field = None

-- the field of the kind whose text this is
unfoldable pub value_of : Piece → List ℕ → Option Field
value_of ANumber t = number_with (numbers_in asn_form t)
value_of AnOctet t = number_with (numbers_in asn_form t) >>= octet_with
value_of (OneOf words) t = if list_any (same t) words then Some (Word t) else None
value_of AFree t = kept true (Free (percent_decode (without_dash t))) t
value_of ASecret t = secret_in t
value_of AHandle t = if is_name t then Some (Handle t) else None
value_of AnAddress t = address_with (numbers_in addr_form t) t
value_of AnIdentifier t = address_with (numbers_in addr_form t) t >>= identifier_with
value_of ANet t = net_with (numbers_in net_form t) t
value_of ABounds t = bounds_with (numbers_in pattern_form t) t
value_of (Or word piece) t = if same t word then Some (Word word) else value_of piece t

-- the field behind a blank, up to the next blank or line's end, and what is behind it
abbrev pub parted_at : Option ℕ → List ℕ → List ℕ × List ℕ
parted_at None t = (t, [])
parted_at (Some n) t = (take n t, drop n t)

unfoldable pub field_at : List ℕ → Option (List ℕ × List ℕ)
field_at [] = None
field_at (c ∷ t) = if c == 32 then Some (parted_at (position is_break t) t) else None

-- what is behind the line's end
unfoldable pub end_at : List ℕ → Option (List ℕ)
end_at [] = None
end_at (c ∷ t) = if c == 10 then Some t else None

-- the field of the kind behind a blank, and what is behind it
abbrev pub piece_at : Piece → List ℕ → Option (Field × List ℕ)
piece_at piece t = field_at t >>= λ f. value_of piece f.0 >>= λ field. Some (field, f.1)

-- the fields of these kinds up to the line's end, and what is behind it
abbrev pub fields_at : List Piece → List ℕ → Option (List Field × List ℕ)
fields_at [] t = end_at t >>= λ rest. Some ([], rest)
fields_at (piece ∷ form) t = piece_at piece t >>= λ f. fields_at form f.1 >>= λ fs. Some (f.0 ∷ fs.0, fs.1)

abbrev pub owner_kind_word : OwnerKind → List ℕ
owner_kind_word Staff = codes "staff"
owner_kind_word Of = codes "member"

-- the two fields of an owner
abbrev pub owner_at : List ℕ → Option (Field × Field × List ℕ)
owner_at t = piece_at owner_kinds t >>= λ kind. piece_at ANumber kind.1 >>= λ number. Some
    (kind.0, number.0, number.1)

-- what was read, seen through `view`
abbrev pub Gives : {A B : Type 0} → (A → B) → Result A Unread → Option B → Type 0
Gives view (Ok a) reads = reads ≡ Some (view a)
Gives view (Err Bad) reads = reads ≡ None
Gives view (Err NoMemory) reads = Unit {0}
