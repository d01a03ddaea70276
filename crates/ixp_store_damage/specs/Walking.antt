-- How far the rows of a store were gone through. Nobody needs to believe these: they serve proofs.
use Rattle.std.specs.Prelude.{◌≡◌, ◌≢◌, ℕ, suc, ◌<◌, ◌≤◌, ◌^◌, ◌⊎◌, ◌==◌, ◌&&◌, Bool, true, false, List, [], ◌∷◌, ◌++◌, flat_map, length, take, Option, Some, None, IfSome, IsSome, Result, Err, decimal}
use Rattle.std.specs.List.{AllByRecursion}
use Rattle.std.specs.declared.cmp.Ordering.TheVariants.{Less}
use Rattle.ixp_io.specs.declared.keeper.Row.{Row}
use Rattle.ixp_io.specs.declared.keeper.RowName.{RowName}
use Rattle.ixp_num.specs.AddressForms.{version_of}
use Rattle.ixp_num.specs.declared.family.Family.{Family}
use Rattle.ixp_num_tables.specs.Tables.{order, Ascends, find}
use Rattle.ixp_registry.specs.declared.kind.Kind.{Kind}
use Rattle.ixp_registry.specs.declared.kind.Kind.TheVariants.{Sites, Prefixes, Origins}
use Rattle.ixp_registry.specs.declared.members.Owner.{Owner}
use Rattle.ixp_registry.specs.declared.registry.Registry.{Registry}
use Rattle.ixp_registry.specs.Registries.{rows_of}
use Rattle.ixp_registry.specs.Valid.{Valid}
use Rattle.ixp_registry.specs.Widths.{IsNumber, owner_number}
use Rattle.ixp_registry.specs.Words.{owner_numbers}
use Rattle.ixp_rows_lines.specs.declared.version.Version.TheVariants.{Two}
use Rattle.ixp_rows_lines.specs.Fields.{Field, AllFit}
use Rattle.ixp_rows_lines.specs.Lines.{form_of, text_of}
use Rattle.ixp_rows.specs.Printing.{all_kinds}
use Rattle.ixp_rows.specs.Reading.{key_in}
use Rattle.ixp_rows.specs.Texts.{dump_text}
use Rattle.ixp_machine_steps.specs.declared.kept.KeptNumber.{KeptNumber}
use Rattle.ixp_machine_steps.specs.declared.kept.KeptOwner.{KeptOwner}
use Rattle.ixp_machine_steps.specs.declared.state.State.{State}
use Rattle.ixp_machine_steps.specs.Kept.{kept_owner_key}
use Rattle.ixp_machine_steps.specs.States.{ValidState}
use Rattle.ixp_store_rows.specs.Names.{Entry, name_of, floor_name, floor_row, kept_row, version_name, count_row}
use Rattle.ixp_store_words.specs.declared.fault.Damage.TheVariants as damage
use Rattle.ixp_store_words.specs.declared.fault.LoadFault.{LoadFault}
use Rattle.ixp_store_words.specs.declared.fault.LoadFault.TheVariants as load
use Rattle.ixp_store_words.specs.declared.fault.NoState.{NoState}
use Rattle.ixp_store_words.specs.declared.fault.NoState.TheVariants.{Damaged, NoMemory}
use Rattle.ixp_store_damage.specs.declared.kept.Run.{Run}
use Rattle.ixp_store_damage.specs.Damages.{HasName, IsOwner, SaysFloor, SaysKept, EndsWithKept, IsFloorRow, IsKeptRow, AreRows, IsFirstWrong, HasLine, BreaksRule, TellsDamage, entries_dump}
use Rattle.ixp_store_words.specs.Opening.{AreAllRows, entry_name}
use Rattle.ixp_store_damage.specs.Placing.{AreSections}
use Rattle.ixp_store_words.specs.Sorting.{Has}
use Rattle.ixp_store_words.specs.Storing.{IsStorable}

-- the fault tells this row
abbrev pub IsRowFault : RowName → NoState → Type 0
IsRowFault name (Damaged told damage.Row) = name ≡ told
IsRowFault name (Damaged told (damage.Rule rule)) = ⊥
IsRowFault name NoMemory = Unit {0}

-- the fault tells the first wrong row
abbrev pub TellsFirst : List Entry → NoState → Type 0
TellsFirst es (Damaged name damage.Row) = IsFirstWrong es name
TellsFirst es (Damaged name (damage.Rule rule)) = ⊥
TellsFirst es NoMemory = Unit {0}

-- the fault tells this rule, and the row that has the line of the dump of these rows
abbrev pub TellsLine : List Entry → ℕ → ℕ → NoState → Type 0
TellsLine ordered line rule (Damaged name (damage.Rule told)) = HasLine ordered name line × (rule ≡ told)
TellsLine ordered line rule (Damaged name damage.Row) = ⊥
TellsLine ordered line rule NoMemory = Unit {0}

-- the fault tells the rule that is broken
abbrev pub TellsRule : List Entry → NoState → Type 0
TellsRule es (Damaged name (damage.Rule rule)) = BreaksRule es name rule
TellsRule es (Damaged name damage.Row) = ⊥
TellsRule es NoMemory = Unit {0}

-- in the order in which they are a dump, the rows of lines are those of a valid registry
pub record TellsRegistry (es : List Entry) : Type 0 where
  pub ordered : List Entry
  pub are : AreSections es all_kinds ordered
  pub registry : Registry
  pub valid : Valid registry
  pub text : entries_dump ordered ≡ dump_text Two (rows_of registry)

-- the rows are those of no state that requests lead to
abbrev pub TellNoState : List Entry → Type 0
TellNoState es = (s : State) → ValidState s → IsStorable s → AreAllRows s es → ⊥

-- the fault tells what is damaged
abbrev pub TellsWrong : List Entry → NoState → Type 0
TellsWrong es (Damaged name damage) = TellsDamage es name damage
TellsWrong es NoMemory = Unit {0}

-- and that of a whole load
abbrev pub LoadTellsWrong : List Entry → Result State LoadFault → Type 0
LoadTellsWrong es (Err (load.Damaged name damage)) = TellsDamage es name damage
LoadTellsWrong es answer = Unit {0}

-- damage is told of this row alone
abbrev pub LoadTellsRow : RowName → Result State LoadFault → Type 0
LoadTellsRow last (Err (load.Damaged name told)) = (name ≡ last) × (told ≡ damage.Row)
LoadTellsRow last answer = Unit {0}

-- the kind has a list of lines for each row
abbrev pub is_listed : Kind → Bool
is_listed Prefixes = true
is_listed Origins = true
is_listed kind = false

-- the site's row
abbrev pub is_site : Row → Bool
is_site row = row.name.kind == 1 && length row.name.key == 0

-- the first row, if there is one, is of no kind from 2 up to this one
abbrev pub Front : ℕ → List Entry → Type 0
Front n [] = Unit {0}
Front n (e ∷ es) = (e.0.kind < 2) ⊎ (n ≤ e.0.kind)

-- the rows before these are rows, of kinds below `low`
pub record Reached (low front : ℕ) (es left : List Entry) : Type 0 where
  pub before : List Entry
  pub parts : es ≡ before ++ left
  pub rows : AreRows es [] before
  pub up : Ascends entry_name es
  pub version : HasName before version_name
  pub site : HasName before (name_of Sites [])
  pub lower : AllByRecursion (λ e. e.0.kind < low) before
  pub next : Front front left

-- the text is lines of a member's list of a family, which ascend, all above this key
pub record AreLines (kind : Kind) (member : ℕ) (family : Family) (last : Option (List ℕ))
    (text : List ℕ) : Type 0 where
  pub lines : List (List Field)
  pub each : AllByRecursion (λ fields. AllFit (form_of Two kind) fields
      × (take 2 (key_in kind fields) ≡ member ∷ version_of family ∷ [])) lines
  pub rising : Ascends (key_in kind) lines
  pub above : IfSome last (λ key. AllByRecursion (λ fields. order key (key_in kind fields) ≡ Less) lines)
  pub spelt : text ≡ flat_map (text_of kind) lines

-- a line with this key is of the list, and above the key before it
abbrev pub MayFollow : ℕ → Family → Option (List ℕ) → List ℕ → Type 0
MayFollow member family last key =
    (take 2 key ≡ member ∷ version_of family ∷ []) × IfSome last (λ before. order before key ≡ Less)

-- what was noted of floors: each is one of the rows, and each of those rows was noted
pub record AreFloors (es before : List Entry) (kept : List KeptOwner) : Type 0 where
  pub said : (w : Owner) (o : KeptOwner) → find kept_owner_key (owner_numbers w) kept ≡ Some o
      → (o.owner ≡ w) × Has es (floor_row o) × (o.floor < 2 ^ 64)
  pub all : (w : Owner) (floor : ℕ) → IsNumber (owner_number w) → Has before (floor_name w, decimal floor)
      → IsSome (find kept_owner_key (owner_numbers w) kept)

-- the rows of floors that come first were noted
pub record FloorsNoted (front : ℕ) (es left : List Entry) (kept : List KeptOwner) : Type 0 where
  pub at : Reached 19 front es left
  pub floors : AreFloors es at.before kept

-- what is found in a row of a floor, of a kept number, and of the count
abbrev pub FindsFloor : Entry → Option KeptOwner → Type 0
FindsFloor e None = (w : Owner) (floor : ℕ) → ¬ (SaysFloor w floor e)
FindsFloor e (Some o) = SaysFloor o.owner o.floor e

abbrev pub FindsFloorRow : List Entry → Entry → Option KeptOwner → Type 0
FindsFloorRow es e None = ¬ (IsFloorRow es e)
FindsFloorRow es e (Some o) = SaysFloor o.owner o.floor e × IsOwner es o.owner

abbrev pub FindsKept : Entry → Option (Owner × KeptNumber) → Type 0
FindsKept e None = (w : Owner) (k : KeptNumber) → ¬ (SaysKept w k e)
FindsKept e (Some x) = SaysKept x.0 x.1 e
    × ((w : Owner) (k : KeptNumber) → SaysKept w k e → ◌≡◌ {A = Owner × KeptNumber} x (w, k))

abbrev pub FindsCount : Entry → Option ℕ → Type 0
FindsCount e None = (n : ℕ) → n < 2 ^ 64 → ¬ (e ≡ count_row n)
FindsCount e (Some n) = (n < 2 ^ 64) × (e ≡ count_row n)

-- how many rows came last of an owner
pub record IsRun (run : Run) (before : List Entry) : Type 0 where
  pub here : (w : Owner) → run.owner ≡ Some w
      → EndsWithKept w run.count before × ¬ (EndsWithKept w (suc run.count) before)
  pub other : (w : Owner) → IsNumber (owner_number w) → run.owner ≢ Some w → ¬ (EndsWithKept w 1 before)

-- with one more of the owner, so many came last, or 1,024 had come
abbrev pub GoesOn : Owner → List Entry → Option Run → Type 0
GoesOn w before None = IsNumber (owner_number w) → EndsWithKept w 1024 before
GoesOn w before (Some run) = IsNumber (owner_number w)
    → ¬ (EndsWithKept w 1024 before) × ((k : KeptNumber) → IsRun run (before ++ kept_row w k ∷ []))

-- how many requests were accepted, by the row that says so, if there is one
abbrev pub IsCounted : List Entry → Option ℕ → Type 0
IsCounted es None = (n : ℕ) → n < 2 ^ 64 → ¬ (Has es (count_row n))
IsCounted es (Some n) = (n < 2 ^ 64) × Has es (count_row n)

-- a row of kind 19 is a kept number, and with it this many rows came last of its owner
abbrev pub Follows : List Entry → List Entry → Entry → Option Run → Type 0
Follows es before e None = ¬ (IsKeptRow es before e)
Follows es before e (Some run) = IsKeptRow es before e × IsRun run (before ++ e ∷ [])

-- rows of kept numbers were gone through
pub record KeptNoted (es left : List Entry) (floors : List KeptOwner) (run : Run) : Type 0 where
  pub at : Reached 20 19 es left
  pub floors_are : AreFloors es at.before floors
  pub run_is : IsRun run at.before
