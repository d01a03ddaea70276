-- The rows that a store holds for lines, lists and kept numbers: what names them, and what they say.
use Rattle.std.specs.Prelude.{ℕ, List, [], ◌∷◌, ◌++◌, ◌==◌, map, flat_map, take, codes, decimal, if◌then◌else◌}
use Rattle.ixp_num.specs.AddressForms.{version_of}
use Rattle.ixp_num.specs.declared.family.Family.{Family}
use Rattle.ixp_io.specs.declared.keeper.RowName.{RowName}
use Rattle.ixp_registry.specs.declared.kind.Kind.{Kind}
use Rattle.ixp_registry.specs.declared.kind.Kind.TheVariants.{Prefixes, Origins}
use Rattle.ixp_registry.specs.declared.lists.IrrList.{IrrList}
use Rattle.ixp_registry.specs.declared.lists.OriginList.{OriginList}
use Rattle.ixp_registry.specs.declared.members.Owner.{Owner}
use Rattle.ixp_registry.specs.Codes.{edit_word, public_word}
use Rattle.ixp_registry.specs.Kinds.{word_of}
use Rattle.ixp_registry.specs.Registries.{prefixes_of, origins_of}
use Rattle.ixp_registry.specs.Widths.{owner_number}
use Rattle.ixp_rows_lines.specs.Fields.{Field, Number, Word, Address, field_text}
use Rattle.ixp_rows_lines.specs.Lines.{Line, owner_word, place_of, key_length, line_text, prefix_line, origin_line}
use Rattle.ixp_machine_steps.specs.declared.kept.KeptNumber.{KeptNumber}
use Rattle.ixp_machine_steps.specs.declared.kept.KeptOwner.{KeptOwner}
use Rattle.ixp_machine_steps.specs.declared.subject.Subject.{Subject}
use Rattle.ixp_machine_steps.specs.declared.subject.Subject.TheVariants as about

-- a row: its name and its body
abbrev pub Entry : Type 0
Entry = RowName × List ℕ

-- the text of a key: its fields, with a blank between any two
abbrev pub key_text : List Field → List ℕ
key_text [] = []
key_text (f ∷ []) = field_text f
key_text (f ∷ g ∷ fs) = field_text f ++ 32 ∷ key_text (g ∷ fs)

-- an address stands in a name as its family, since an interface has one of each; every other field as it is
abbrev pub name_field : Field → Field
name_field (Address family value) = Number (version_of family)
name_field f = f

-- the fields that name a row: those of its line's key
abbrev pub name_fields : Kind → List Field → List Field
name_fields kind fields = map name_field (take (key_length kind) fields)

-- rows of lines are of the kinds 1 to 17, in the order of a dump
abbrev pub name_of : Kind → List Field → RowName
name_of kind fields = record { kind = place_of kind; key = key_text fields }

-- a line without its end
abbrev pub line_body : Kind → List Field → List ℕ
line_body kind fields = word_of kind ++ flat_map (λ field. 32 ∷ field_text field) fields

-- the row of a line
unfoldable pub fields_row : Kind → List Field → Entry
fields_row kind fields = (name_of kind (name_fields kind fields), line_body kind fields)

abbrev pub line_row : Line → Entry
line_row line = fields_row line.kind line.fields

-- a member's list of a family is one row, whose body has the whole lines of its items
abbrev pub list_name : Kind → ℕ → Family → RowName
list_name kind member family = name_of kind (Number member ∷ Number (version_of family) ∷ [])

abbrev pub irr_row : IrrList → Entry
irr_row l = (list_name Prefixes l.member l.family, flat_map (λ p. line_text (prefix_line p)) (prefixes_of l))

abbrev pub origins_row : OriginList → Entry
origins_row l =
    (list_name Origins l.member l.family, flat_map (λ o. line_text (origin_line o)) (origins_of l))

-- of kind 18 are the floors below which the numbers of an owner count as used; a floor of 0 has no row
abbrev pub owner_fields : Owner → List Field
owner_fields owner = Word (owner_word owner) ∷ Number (owner_number owner) ∷ []

abbrev pub floor_name : Owner → RowName
floor_name owner = record { kind = 18; key = key_text (owner_fields owner) }

abbrev pub floor_row : KeptOwner → Entry
floor_row o = (floor_name o.owner, decimal o.floor)

abbrev pub floor_rows : KeptOwner → List Entry
floor_rows o = if o.floor == 0 then [] else floor_row o ∷ []

-- of kind 19 are the numbers that are kept: the kind of the request, what it is about, and its place among
-- those accepted
abbrev pub subject_text : Subject → List ℕ
subject_text (about.Number n) = decimal n
subject_text (about.Pair a b) = decimal a ++ 32 ∷ decimal b
subject_text (about.Handle h) = h
subject_text (about.Public p) = public_word p

abbrev pub kept_name : Owner → ℕ → RowName
kept_name owner number = record { kind = 19; key = key_text (owner_fields owner) ++ 32 ∷ decimal number }

abbrev pub kept_body : KeptNumber → List ℕ
kept_body k = edit_word k.kind ++ 32 ∷ (subject_text k.subject ++ 32 ∷ decimal k.place)

abbrev pub kept_row : Owner → KeptNumber → Entry
kept_row owner k = (kept_name owner k.number, kept_body k)

abbrev pub kept_rows : KeptOwner → List Entry
kept_rows o = map (kept_row o.owner) o.numbers

-- the version of the store's form, and how many requests were accepted
abbrev pub version_name : RowName
version_name = record { kind = 0; key = [] }

abbrev pub version_row : Entry
version_row = (version_name, codes "2")

abbrev pub count_name : RowName
count_name = record { kind = 20; key = [] }

abbrev pub count_row : ℕ → Entry
count_row accepted = (count_name, decimal accepted)
