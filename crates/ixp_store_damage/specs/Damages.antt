-- Which row of a store is told to be damaged.
use Rattle.std.specs.Prelude.{◌≡◌, ◌≢◌, ℕ, zero, suc, ◌<◌, ◌≤◌, ◌^◌, ◌⊎◌, ◌+◌, ◌==◌, ◌||◌, if◌then◌else◌, Bool, Some, List, [], ◌∷◌, ◌++◌, flat_map, length, take, decimal, Result, Err}
use Rattle.std.specs.FinMap.{entries, len}
use Rattle.std.specs.List.{AllByRecursion, filter}
use Rattle.std.specs.List.Sorted.{IsPermutation}
use Rattle.std.specs.declared.cmp.Ordering.TheVariants.{Less}
use Rattle.ixp_io.specs.declared.keeper.RowName.{RowName}
use Rattle.ixp_io.specs.Tables.{Table, name_bytes}
use Rattle.ixp_num.specs.AddressForms.{version_of}
use Rattle.ixp_num.specs.declared.family.Family.{Family}
use Rattle.ixp_num_tables.specs.Tables.{order, Ascends}
use Rattle.ixp_registry.specs.declared.kind.Kind.{Kind}
use Rattle.ixp_registry.specs.declared.kind.Kind.TheVariants.{Sites, Members, Prefixes, Origins}
use Rattle.ixp_registry.specs.declared.members.Owner.{Owner}
use Rattle.ixp_registry.specs.declared.members.Owner.TheVariants.{Staff, Member}
use Rattle.ixp_registry.specs.Widths.{IsNumber, owner_number}
use Rattle.ixp_rows_lines.specs.declared.version.Version.TheVariants.{Two}
use Rattle.ixp_rows_lines.specs.Fields.{Field, Number, AllFit}
use Rattle.ixp_rows_lines.specs.Lines.{form_of, place_of, text_of}
use Rattle.ixp_registry.specs.declared.rows.Rows.{Rows}
use Rattle.ixp_registry.specs.Registries.{breach}
use Rattle.ixp_rows.specs.Answers.{IsDump, row_lines}
use Rattle.ixp_rows.specs.Printing.{all_kinds}
use Rattle.ixp_rows.specs.Reading.{breaks, end_text, head_text, key_in}
use Rattle.ixp_machine_steps.specs.declared.kept.KeptNumber.{KeptNumber}
use Rattle.ixp_machine_steps.specs.declared.state.State.{State}
use Rattle.ixp_machine_steps.specs.States.{ValidState}
use Rattle.ixp_store_rows.specs.Names.{Entry, fields_row, name_of, list_name, floor_name, kept_row, version_name, version_row, count_name, count_row}
use Rattle.ixp_store_rows.specs.States.{tables}
use Rattle.ixp_store_words.specs.declared.fault.Damage.{Damage}
use Rattle.ixp_store_words.specs.declared.fault.Damage.TheVariants.{Row, Rule}
use Rattle.ixp_store_words.specs.declared.fault.LoadFault.{LoadFault}
use Rattle.ixp_store_words.specs.declared.fault.LoadFault.TheVariants.{Damaged}
use Rattle.ixp_store_words.specs.Sorting.{Has}
use Rattle.ixp_store_words.specs.Storing.{HasSubject, IsStorable}

-- a row of one line: its body is a line of the kind, without the end, and the line's key names it
abbrev pub IsLineRow : Kind → Entry → Type 0
IsLineRow kind e = (fields : List Field) × AllFit (form_of Two kind) fields × (e ≡ fields_row kind fields)

-- a row of a member's list of a family: its body is whole lines of this list, at least one, which ascend
pub record IsListRow (kind : Kind) (e : Entry) : Type 0 where
  pub member : ℕ
  pub family : Family
  pub lines : List (List Field)
  pub small : IsNumber member
  pub some : lines ≢ []
  pub each : AllByRecursion (λ fields. AllFit (form_of Two kind) fields
      × (take 2 (key_in kind fields) ≡ member ∷ version_of family ∷ [])) lines
  pub rising : Ascends (key_in kind) lines
  pub row : e ≡ (list_name kind member family, flat_map (text_of kind) lines)

-- a row of the kind: members' lists are rows of their own, and of every other kind each line is one
abbrev pub IsRowOf : Kind → Entry → Type 0
IsRowOf Prefixes e = IsListRow Prefixes e
IsRowOf Origins e = IsListRow Origins e
IsRowOf kind e = IsLineRow kind e

-- the rows have one with the name
abbrev pub HasName : List Entry → RowName → Type 0
HasName es name = (body : List ℕ) × Has es (name, body)

-- requests are kept for staff 1 to 16, and for members that have a row
abbrev pub IsOwner : List Entry → Owner → Type 0
IsOwner es (Staff n) = (1 ≤ n) × (n ≤ 16)
IsOwner es (Member n) = HasName es (name_of Members (Number n ∷ []))

-- the row says that the numbers of an owner count as used below this floor
pub record SaysFloor (owner : Owner) (floor : ℕ) (e : Entry) : Type 0 where
  pub small : IsNumber (owner_number owner)
  pub least : 0 < floor
  pub most : floor ≤ 10 ^ 16
  pub row : e ≡ (floor_name owner, decimal floor)

-- the row says that this number of a request is kept for an owner
pub record SaysKept (owner : Owner) (k : KeptNumber) (e : Entry) : Type 0 where
  pub small : IsNumber (owner_number owner)
  pub subject : HasSubject k
  pub least : 0 < k.number
  pub place : k.place < 2 ^ 64
  pub row : e ≡ kept_row owner k

-- so many rows at the end are the owner's kept numbers
unfoldable pub EndsWithKept : Owner → ℕ → List Entry → Type 0
EndsWithKept owner zero es = Unit {0}
EndsWithKept owner (suc n) es = (front : List Entry) × (k : KeptNumber)
    × (es ≡ front ++ kept_row owner k ∷ []) × EndsWithKept owner n front

-- a kept number of an owner who is there: not below the owner's floor, its place among those that were
-- accepted, and not behind 1,024 others of this owner
pub record IsKeptRow (es before : List Entry) (e : Entry) : Type 0 where
  pub owner : Owner
  pub kept : KeptNumber
  pub says : SaysKept owner kept e
  pub known : IsOwner es owner
  pub above : (floor : ℕ) → floor < 2 ^ 64 → Has es (floor_name owner, decimal floor) → floor ≤ kept.number
  pub counted : (accepted : ℕ) → accepted < 2 ^ 64 → Has es (count_row accepted) → kept.place ≤ accepted
  pub few : ¬ (EndsWithKept owner 1024 before)

-- a floor of an owner who is there
abbrev pub IsFloorRow : List Entry → Entry → Type 0
IsFloorRow es e = (owner : Owner) × (floor : ℕ) × SaysFloor owner floor e × IsOwner es owner

-- how many requests were accepted, in 64 bits
abbrev pub IsCountRow : Entry → Type 0
IsCountRow e = (n : ℕ) × (n < 2 ^ 64) × (e ≡ count_row n)

-- The row is one that a store of these rows may have behind those before it: that of the version, one of the
-- registry, a floor, a kept number, or that of the count.
abbrev pub IsRow : List Entry → List Entry → Entry → Type 0
IsRow es before e = (e ≡ version_row) ⊎ (((kind : Kind) × IsRowOf kind e)
    ⊎ (IsFloorRow es e ⊎ (IsKeptRow es before e ⊎ IsCountRow e)))

-- behind some rows, each of these is such a row
abbrev pub AreRows : List Entry → List Entry → List Entry → Type 0
AreRows es before [] = Unit {0}
AreRows es before (e ∷ rest) = IsRow es before e × AreRows es (before ++ e ∷ []) rest

-- names are in the order of their kinds, and then of the bytes of their keys
abbrev pub Below : RowName → RowName → Type 0
Below a b = order (name_bytes a) (name_bytes b) ≡ Less

-- the rows that each store has: of the version, the site and the count
abbrev pub IsNeeded : RowName → Type 0
IsNeeded name = (name ≡ version_name) ⊎ ((name ≡ name_of Sites []) ⊎ (name ≡ count_name))

-- such a row isn't there, and this is its place
pub record IsMissing (before after : List Entry) (name : RowName) : Type 0 where
  pub needed : IsNeeded name
  pub above : AllByRecursion (λ e. Below e.0 name) before
  pub below : AllByRecursion (λ e. Below name e.0) after

-- behind some rows, the first of these is none
abbrev pub BeginsWrong : List Entry → List Entry → List Entry → RowName → Type 0
BeginsWrong es before [] name = ⊥
BeginsWrong es before (e ∷ after) name = (name ≡ e.0) × ¬ (IsRow es before e)

-- The name is the first at which something is wrong: the rows before it are right, none is missing that comes
-- before it, and its own is wrong or is missing.
pub record IsFirstWrong (es : List Entry) (name : RowName) : Type 0 where
  pub before : List Entry
  pub after : List Entry
  pub parts : es ≡ before ++ after
  pub rows : AreRows es [] before
  pub needed : (other : RowName) → IsNeeded other → Below other name → HasName before other
  pub wrong : BeginsWrong es before after name ⊎ IsMissing before after name

-- each row is one, and none is missing
pub record AreAllRight (es : List Entry) : Type 0 where
  pub rows : AreRows es [] es
  pub needed : (name : RowName) → IsNeeded name → HasName es name

-- the row is a list's, whose body has whole lines
abbrev pub has_whole_lines : Entry → Bool
has_whole_lines e = e.0.kind == 11 || e.0.kind == 12

-- what a row is in a dump
abbrev pub entry_text : Entry → List ℕ
entry_text e = e.1 ++ (if has_whole_lines e then [] else 10 ∷ [])

-- rows in this order as lines, and as the dump that has them
abbrev pub entries_text : List Entry → List ℕ
entries_text es = flat_map entry_text es

abbrev pub entries_dump : List Entry → List ℕ
entries_dump es = head_text Two ++ (entries_text es ++ end_text (breaks (entries_text es)))

-- kind by kind the rows of the kind, in some order
abbrev pub KindByKind : List Entry → List Kind → List Entry → Type 0
KindByKind es [] ordered = ordered ≡ []
KindByKind es (kind ∷ kinds) ordered =
    (own : List Entry) × (others : List Entry)
    × IsPermutation (filter (λ e. e.0.kind == place_of kind) es) own × KindByKind es kinds others
    × (ordered ≡ own ++ others)

-- the row has this line of the dump of these rows, whose first line is the head
pub record HasLine (ordered : List Entry) (name : RowName) (line : ℕ) : Type 0 where
  pub before : List Entry
  pub row : Entry
  pub after : List Entry
  pub parts : ordered ≡ before ++ row ∷ after
  pub named : name ≡ row.0
  pub above : breaks (entries_text before) + 1 < line
  pub below : line ≤ breaks (entries_text before) + (breaks (entry_text row) + 1)

-- In the order in which they are a dump, the rows of lines break this rule, and none below it, and this row
-- has the first line that breaks it.
pub record BreaksRule (es : List Entry) (name : RowName) (rule : ℕ) : Type 0 where
  pub ordered : List Entry
  pub kinds : KindByKind es all_kinds ordered
  pub rows : Rows
  pub dump : IsDump Two (row_lines Two rows) (entries_dump ordered)
  pub line : ℕ
  pub broken : breach rows ≡ Some (record { rule = rule; line = line })
  pub at : HasLine ordered name line

-- What is told of rows in the order of their names: the first that is wrong, or the rule that they break
-- where each is right.
abbrev pub TellsDamage : List Entry → RowName → Damage → Type 0
TellsDamage es name Row = IsFirstWrong es name
TellsDamage es name (Rule rule) = AreAllRight es × BreaksRule es name rule

-- the row behind the first 8,000,000, which are as many as a valid state may have
pub record IsOneTooMany (rows : Table) (name : RowName) : Type 0 where
  pub before : List Entry
  pub row : Entry
  pub after : List Entry
  pub parts : entries rows ≡ before ++ row ∷ after
  pub many : length before ≡ 8000000
  pub named : name ≡ row.0

-- the rows are those of no state that requests lead to
abbrev pub FitsNoState : Table → Type 0
FitsNoState rows = (s : State) → ValidState s → IsStorable s → rows ≢ tables s

-- Which row is told to be damaged: a store with one row too many is told by that row, and any other by what
-- is wrong with its rows.
abbrev pub TellsRow : Result State LoadFault → Table → Type 0
TellsRow (Err (Damaged name damage)) rows =
    FitsNoState rows × (((len rows ≤ 8000000) × TellsDamage (entries rows) name damage)
    ⊎ (IsOneTooMany rows name × (damage ≡ Row)))
TellsRow answer rows = Unit {0}
