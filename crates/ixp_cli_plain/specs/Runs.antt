-- What a run of the program does.
use Rattle.std.specs.Prelude.{◌≡◌, ◌≢◌, ◌<◌, ◌≤◌, ◌⊎◌, ◌+◌, ℕ, ◌==◌, ◌&&◌, ◌||◌, Bool, true, false, List, [], ◌∷◌, ◌++◌, length, Option, Some, None, Result, Ok, Err, option_map, codes, decimal, IsTrue, if◌then◌else◌}
use Rattle.std.specs.FinMap.{empty}
use Rattle.ixp_num.specs.declared.cause.Cause.{Cause}
use Rattle.ixp_num.specs.declared.cause.Code.TheVariants.{U5}
use Rattle.ixp_num.specs.declared.cause.Place.TheVariants.{Byte}
use Rattle.ixp_num.specs.Causes.{cause_text}
use Rattle.ixp_io.specs.Faults.{Rose}
use Rattle.ixp_io.specs.Told.{Told, WhereTold, Moves, MovesUpTo, IsDone, Takes, TakesPart}
use Rattle.ixp_registry.specs.Alphabets.{is_handle}
use Rattle.ixp_registry.specs.declared.registry.Registry.{Registry}
use Rattle.ixp_num_tables.specs.Tables.{same}
use Rattle.ixp_cli_plain.specs.declared.command.Command.{Command}
use Rattle.ixp_cli_plain.specs.declared.command.Command.TheVariants.{Ask, Ixf, Restore, Dump, Upgrade, Demo, Wait}
use Rattle.ixp_cli_plain.specs.declared.command.Waiting.{Waiting}
use Rattle.ixp_cli_plain.specs.declared.command.Waiting.TheVariants.{Session, Serve}
use Rattle.ixp_cli_plain.specs.declared.restore.NoDump.{NoDump}
use Rattle.ixp_cli_plain.specs.declared.restore.NoDump.TheVariants as no
use Rattle.ixp_cli_plain.specs.declared.command.Question.{Question}
use Rattle.ixp_cli_plain.specs.declared.command.Question.TheVariants.{Check, Eval, Fate, Generate, Export, Expand}
use Rattle.ixp_cli_plain.specs.declared.end.End.{End}
use Rattle.ixp_cli_plain.specs.declared.end.End.TheVariants.{Done, Usage, BadInput, BadObjects, ReadFault, WriteFault, KeeperFault, NoMemory, UnknownRouter, NotEmpty, Damaged, OldVersion, DoorFault, BadLink}
use Rattle.ixp_cli_plain.specs.declared.end.NoAnswer.{NoAnswer}
use Rattle.ixp_cli_plain.specs.declared.end.NoAnswer.TheVariants as answer
use Rattle.ixp_cli_plain.specs.Checks.{Checks, IsNoDump}
use Rattle.ixp_cli_plain.specs.Demos.{demo_text, members_in}
use Rattle.ixp_cli_plain.specs.Evals.{Evaluates, IsNoEval}
use Rattle.ixp_cli_plain.specs.Expansions.{cause_text_of, expand_with}
use Rattle.ixp_cli_plain.specs.Exports.{Exports}
use Rattle.ixp_cli_plain.specs.Fates.{Fates, HasNoRouter, IsNoFate}
use Rattle.ixp_cli_plain.specs.Generates.{Generates, IsUnknown}
use Rattle.ixp_rpsl_text.specs.Listings.{Expands, ExpandsNot}
use Rattle.ixp_rpsl_text.specs.declared.fault.ExpandCause.{ExpandCause}
use Rattle.ixp_rows_lines.specs.declared.version.Version.TheVariants.{Two}
use Rattle.ixp_store_words.specs.Answers.{IsStoreOf, LoadsAll, TellsVersion}
use Rattle.ixp_store_damage.specs.Damages.{TellsRow}
use Rattle.ixp_store_words.specs.declared.fault.LoadFault.{LoadFault}
use Rattle.ixp_store_words.specs.declared.fault.LoadFault.TheVariants.{KeeperFault as StoreFault, OldVersion as OlderStore}
use Rattle.ixp_store_words.specs.Storing.{IsStorable}
use Rattle.ixp_registry.specs.Registries.{rows_of}
use Rattle.ixp_rows.specs.Texts.{dump_text}
use Rattle.ixp_machine_steps.specs.declared.state.State.{State}
use Rattle.ixp_machine_steps.specs.States.{ValidState}
use Rattle.ixp_store_rows.specs.States.{tables}
use Rattle.ixp_store_upgrade.specs.Upgrades.{TellsDamaged, Upgrades, UpgradesAll}
use Rattle.ixp_cli_plain.specs.Restores.{Store, IsDumpOf, Fills, IsFilled, Restores}
use Rattle.ixp_cli_plain.specs.Serving.{serve_by, serve_rtr_by}
use Rattle.ixp_cli_plain.specs.Sessions.{code_word, Unloaded}

-- the command that a word is
abbrev pub command_by : List ℕ → Option Command
command_by word =
    if same word (codes "check") then Some (Ask Check) else if same word (codes "eval") then Some (Ask Eval)
    else if same word (codes "fate") then Some (Ask Fate)
    else if same word (codes "ixf") then Some Ixf else if same word (codes "restore") then Some Restore
    else if same word (codes "dump") then Some Dump
    else if same word (codes "upgrade") then Some Upgrade
    else if same word (codes "session") then Some (Wait Session) else None

-- the command that a word and a handle are, or a word and a number of members
abbrev pub command_with : List ℕ → List ℕ → Option Command
command_with word other =
    if same word (codes "generate") && is_handle other then Some (Ask (Generate other))
    else if same word (codes "demo") then option_map Demo (members_in other) else None

-- a demo exchange has at most 4000 members, and a server at most 62 workers
abbrev pub IsSized : Option Command → Type 0
IsSized (Some (Demo members)) = members ≤ 4000
IsSized (Some (Wait (Serve port workers links routers))) = workers ≤ 62
IsSized command = Unit {0}

-- the command that a word, a set name, a family and a listing are, or a word, a port, a number of workers and
-- one of links
abbrev pub command_of : List ℕ → List ℕ → List ℕ → List ℕ → Option Command
command_of word set family listing =
    if same word (codes "expand") then option_map Ask (expand_with set family listing)
    else serve_by word set family listing

-- the command that words are
abbrev pub command_in : List (List ℕ) → Option Command
command_in [] = None
command_in (word ∷ []) = command_by word
command_in (word ∷ other ∷ []) = command_with word other
command_in (word ∷ other ∷ third ∷ []) = None
command_in (word ∷ other ∷ third ∷ fourth ∷ []) = command_of word other third fourth
command_in (word ∷ other ∷ third ∷ fourth ∷ fifth ∷ []) = None
command_in (word ∷ other ∷ third ∷ fourth ∷ fifth ∷ sixth ∷ []) = None
command_in (word ∷ other ∷ third ∷ fourth ∷ fifth ∷ sixth ∷ seventh ∷ []) =
    serve_rtr_by word other third fourth fifth sixth seventh
command_in (word ∷ other ∷ third ∷ fourth ∷ fifth ∷ sixth ∷ seventh ∷ eighth ∷ words) = None

-- the command asks a question
abbrev pub IsQuestion : Option Command → Type 0
IsQuestion (Some (Ask question)) = Unit {0}
IsQuestion command = ⊥

-- what a question answers of an input: what it writes, or why it refuses it
abbrev pub Answers : Question → List ℕ → Result (List ℕ) Cause → Type 0
Answers Check input (Ok output) = Checks input output
Answers Check input (Err cause) = IsNoDump input cause
Answers Eval input (Ok output) = Evaluates input output
Answers Eval input (Err cause) = IsNoEval input cause
Answers Fate input (Ok output) = Fates input output
Answers Fate input (Err cause) = IsNoFate input cause
Answers (Generate handle) input (Ok output) = Generates handle input output
Answers (Generate handle) input (Err cause) = IsNoDump input cause
Answers (Export second) input (Ok output) = Exports second input output
Answers (Export second) input (Err cause) = IsNoDump input cause
Answers (Expand set family listing) input (Ok output) = Expands input set family listing output
Answers (Expand set family listing) input (Err cause) = ⊥

-- a question asks for the router with this handle, and the input's registry has none
abbrev pub AsksInVain : Question → List ℕ → List ℕ → Type 0
AsksInVain (Generate handle) input router = (router ≡ handle) × IsUnknown handle input
AsksInVain Check input router = ⊥
AsksInVain Eval input router = ⊥
AsksInVain Fate input router = HasNoRouter input router
AsksInVain (Export second) input router = ⊥
AsksInVain (Expand set family listing) input router = ⊥

-- a question about whois data gets no answer of the input, for this cause
abbrev pub HasBadObjects : Question → List ℕ → ExpandCause → Type 0
HasBadObjects (Expand set family listing) input cause = ExpandsNot input set family listing cause
HasBadObjects Check input cause = ⊥
HasBadObjects Eval input cause = ⊥
HasBadObjects Fate input cause = ⊥
HasBadObjects (Generate handle) input cause = ⊥
HasBadObjects (Export second) input cause = ⊥

-- why a question gets no answer of an input, or that memory ran out
abbrev pub IsNoAnswer : Question → List ℕ → NoAnswer → Type 0
IsNoAnswer question input (answer.Bad cause) = Answers question input (Err cause)
IsNoAnswer question input (answer.Unknown router) = AsksInVain question input router
IsNoAnswer question input (answer.BadObjects cause) = HasBadObjects question input cause
IsNoAnswer question input answer.NoMemory = Unit {0}

-- there is such a cause, or memory ran out
abbrev pub Refused : (Cause → Type 0) → NoAnswer → Type 0
Refused why (answer.Bad cause) = why cause
Refused why (answer.Unknown router) = ⊥
Refused why (answer.BadObjects cause) = ⊥
Refused why answer.NoMemory = Unit {0}

-- there is such a cause, or such a router isn't there, or memory ran out
abbrev pub RefusedOr : (Cause → Type 0) → (List ℕ → Type 0) → NoAnswer → Type 0
RefusedOr why away (answer.Bad cause) = why cause
RefusedOr why away (answer.Unknown router) = away router
RefusedOr why away (answer.BadObjects cause) = ⊥
RefusedOr why away answer.NoMemory = Unit {0}

-- the cause, or running out of memory where there is none
abbrev pub no_answer : Option Cause → NoAnswer
no_answer (Some cause) = answer.Bad cause
no_answer None = answer.NoMemory

-- the status of a run that ends so
abbrev pub status_of : End → ℕ
status_of Done = 0
status_of Usage = 1
status_of (BadInput cause) = 2
status_of (BadObjects cause) = 2
status_of ReadFault = 3
status_of WriteFault = 4
status_of KeeperFault = 5
status_of NoMemory = 8
status_of (UnknownRouter router) = 9
status_of NotEmpty = 11
status_of (Damaged what) = 6
status_of (OldVersion found) = 10
status_of DoorFault = 7
status_of (BadLink code requests) = 2

-- the line that tells of a run that ends so
abbrev pub error_text : End → List ℕ
error_text Done = []
error_text Usage = codes "ixpm: usage\n"
error_text (BadInput cause) = codes "ixpm: bad input " ++ (cause_text cause ++ 10 ∷ [])
error_text (BadObjects cause) = cause_text_of cause
error_text ReadFault = codes "ixpm: read fault\n"
error_text WriteFault = codes "ixpm: write fault\n"
error_text KeeperFault = codes "ixpm: keeper fault\n"
error_text NoMemory = codes "ixpm: no memory\n"
error_text (UnknownRouter router) = codes "ixpm: unknown router " ++ (router ++ 10 ∷ [])
error_text NotEmpty = codes "ixpm: store not empty\n"
error_text (Damaged what) = codes "ixpm: damaged " ++ (what ++ 10 ∷ [])
error_text (OldVersion found) = codes "ixpm: old store " ++ (decimal found ++ 10 ∷ [])
error_text DoorFault = codes "ixpm: door fault\n"
error_text (BadLink code requests) =
    codes "ixpm: bad input " ++ (code_word code ++ (32 ∷ (decimal requests ++ 10 ∷ [])))

-- what a source or a sink tells at a moment: the bytes that are left, or those that were written, and how
-- many calls failed
pub record Flow : Type 0 where
  pub bytes : Option (List ℕ)
  pub faults : ℕ

-- What the objects of the outside tell at a moment. Beside what is read and written, the keeper tells its
-- rows and how many calls failed, the clock the last second that it gave.
pub record Outside : Type 0 where
  pub input : Flow
  pub output : Flow
  pub errors : Flow
  pub store : Store
  pub second : Option ℕ

-- the greatest number of bytes of an input that is read whole
abbrev pub input_limit : ℕ
input_limit = 268435456

-- All of the input was read: it is this text, which is no longer than the limit.
abbrev pub ReadsAll : Flow → Flow → List ℕ → Type 0
ReadsAll before after text =
    Moves before.bytes after.bytes text × IsDone after.bytes × (length text ≤ input_limit)

-- some first bytes of the input were read, at most one more than the limit
abbrev pub ReadsSome : Flow → Flow → Type 0
ReadsSome before after = MovesUpTo (input_limit + 1) before.bytes after.bytes

-- the cause of an input that is longer than the limit
abbrev pub too_long : Cause
too_long = record { code = U5; place = Byte input_limit }

-- more bytes were left than the limit, of which one more than the limit was read at most
abbrev pub IsTooLong : Flow → Flow → Type 0
IsTooLong before after = Told before.bytes after.bytes (λ left rest. input_limit < length left)
    × ReadsSome before after

-- the input was read, and is the dump of this registry
abbrev pub ReadsDump : Flow → Flow → Registry → Type 0
ReadsDump before after r = (read : List ℕ) × ReadsAll before after read × IsDumpOf read r

-- Why an input is refused: it is too long, or else it is refused for what it is.
abbrev pub IsRefused : (List ℕ → Cause → Type 0) → Flow → Flow → Cause → Type 0
IsRefused refuses before after cause =
    ((cause ≡ too_long) × IsTooLong before after)
    ⊎ ((input : List ℕ) × ReadsAll before after input × refuses input cause)

-- How a question ends. It reads all of its input, and then writes all that it has to say. Where it doesn't
-- come to writing, the output is as it was; where a write fails, the output took a first part of what the
-- question says.
abbrev pub QuestionEnds : Question → Flow → Flow → Flow → Flow → End → Type 0
QuestionEnds question input input' output output' Done =
    (read written : List ℕ) × ReadsAll input input' read × Answers question read (Ok written)
    × Takes output.bytes output'.bytes written
QuestionEnds question input input' output output' Usage = ⊥
QuestionEnds question input input' output output' (BadInput cause) =
    IsRefused (λ read why. Answers question read (Err why)) input input' cause × (output' ≡ output)
QuestionEnds question input input' output output' (BadObjects cause) =
    (read : List ℕ) × ReadsAll input input' read × HasBadObjects question read cause × (output' ≡ output)
QuestionEnds question input input' output output' ReadFault =
    Rose input.faults input'.faults × ReadsSome input input' × (output' ≡ output)
QuestionEnds question input input' output output' WriteFault =
    (read written : List ℕ) × ReadsAll input input' read × Answers question read (Ok written)
    × TakesPart output.bytes output'.bytes written
    × Rose output.faults output'.faults
QuestionEnds question input input' output output' KeeperFault = ⊥
QuestionEnds question input input' output output' NoMemory = ReadsSome input input' × (output' ≡ output)
QuestionEnds question input input' output output' (UnknownRouter router) =
    (read : List ℕ) × ReadsAll input input' read × AsksInVain question read router × (output' ≡ output)
QuestionEnds question input input' output output' NotEmpty = ⊥
QuestionEnds question input input' output output' (Damaged what) = ⊥
QuestionEnds question input input' output output' (OldVersion found) = ⊥
QuestionEnds question input input' output output' DoorFault = ⊥
QuestionEnds question input input' output output' (BadLink code requests) = ⊥

-- why no dump was read: the input is refused, or a read failed, or memory ran out
abbrev pub NotRead : Flow → Flow → NoDump → Type 0
NotRead before after no.ReadFault = Rose before.faults after.faults × ReadsSome before after
NotRead before after (no.Bad cause) = IsRefused IsNoDump before after cause
NotRead before after no.NoMemory = ReadsSome before after

-- How `restore` ends. It reads all of its input, a registry's dump, puts the rows of that registry into the
-- keeper, which has to have none, and writes how many lines they are. Where it doesn't come to writing,
-- keeper and output are as they were.
abbrev pub RestoreEnds : Flow → Flow → Flow → Flow → Store → Store → End → Type 0
RestoreEnds input input' output output' store store' Done =
    (r : Registry) × ReadsDump input input' r × Fills r store store'
    × Takes output.bytes output'.bytes (Restores r)
RestoreEnds input input' output output' store store' Usage = ⊥
RestoreEnds input input' output output' store store' (BadInput cause) =
    IsRefused IsNoDump input input' cause × (output' ≡ output) × (store' ≡ store)
RestoreEnds input input' output output' store store' (BadObjects cause) = ⊥
RestoreEnds input input' output output' store store' ReadFault =
    Rose input.faults input'.faults × ReadsSome input input' × (output' ≡ output) × (store' ≡ store)
RestoreEnds input input' output output' store store' WriteFault =
    (r : Registry) × ReadsDump input input' r × Fills r store store'
    × TakesPart output.bytes output'.bytes (Restores r)
    × Rose output.faults output'.faults
RestoreEnds input input' output output' store store' KeeperFault =
    (r : Registry) × ReadsDump input input' r × Rose store.faults store'.faults × (output' ≡ output)
    × (store'.rows ≡ store.rows)
RestoreEnds input input' output output' store store' NoMemory =
    ReadsSome input input' × (output' ≡ output) × (store'.rows ≡ store.rows)
RestoreEnds input input' output output' store store' (UnknownRouter router) = ⊥
RestoreEnds input input' output output' store store' NotEmpty =
    (r : Registry) × ReadsDump input input' r × IsFilled store × (output' ≡ output)
    × (store'.rows ≡ store.rows)
RestoreEnds input input' output output' store store' (Damaged what) = ⊥
RestoreEnds input input' output output' store store' (OldVersion found) = ⊥
RestoreEnds input input' output output' store store' DoorFault = ⊥
RestoreEnds input input' output output' store store' (BadLink code requests) = ⊥

-- The store couldn't be loaded: nothing was read or written, and its rows are as they were. A fault of the
-- store came in this run; an older version is told where the row of the version says so, and damage nowhere
-- there, nor where the rows are those of a state that requests lead to, or none. The row that is told is the
-- first that is wrong, or the one that breaks a rule.
abbrev pub NotLoaded : Flow → Flow → Flow → Flow → Store → Store → End → Type 0
NotLoaded input input' output output' store store' end =
    (input' ≡ input) × (output' ≡ output) × (store'.rows ≡ store.rows)
    × ((fault : LoadFault) × Unloaded fault end × (fault ≡ StoreFault → Rose store.faults store'.faults)
    × WhereTold store.rows (TellsVersion (Err fault))
    × LoadsAll store.rows (Err fault) × WhereTold store.rows (TellsRow (Err fault)))

-- the store has the rows of a state that requests lead to, or none
abbrev pub CanBeLoaded : Store → Type 0
CanBeLoaded store = (store.rows ≡ Some empty)
    ⊎ ((s : State) × ValidState s × IsStorable s × (store.rows ≡ Some (tables s)))

-- The store has the rows of this valid state, and is loaded as it: what it could be loaded as is this state,
-- and its version isn't older.
pub record Holds (store : Store) (s : State) : Type 0 where
  pub valid : ValidState s
  pub storable : IsStorable s
  pub state : WhereTold store.rows (IsStoreOf s)
  pub all : LoadsAll store.rows (Ok s)
  pub version : WhereTold store.rows (TellsVersion (Ok s))

-- How `dump` ends: it writes the dump of the store's registry, and reads nothing.
abbrev pub DumpEnds : Flow → Flow → Flow → Flow → Store → Store → End → Type 0
DumpEnds input input' output output' store store' Done =
    (s : State) × Holds store s × (input' ≡ input) × (store'.rows ≡ store.rows)
    × Takes output.bytes output'.bytes (dump_text Two (rows_of s.registry))
DumpEnds input input' output output' store store' WriteFault =
    (s : State) × Holds store s × (input' ≡ input) × (store'.rows ≡ store.rows)
    × TakesPart output.bytes output'.bytes (dump_text Two (rows_of s.registry))
    × Rose output.faults output'.faults
DumpEnds input input' output output' store store' NoMemory =
    (input' ≡ input) × (output' ≡ output) × (store'.rows ≡ store.rows)
DumpEnds input input' output output' store store' end = NotLoaded input input' output output' store store' end

-- what `upgrade` writes: `upgraded` and the number of routers whose rows it set
abbrev pub upgraded_text : ℕ → List ℕ
upgraded_text n = codes "upgraded " ++ (decimal n ++ 10 ∷ [])

-- The store couldn't be upgraded: nothing was read or written, and its rows are as they were. A fault of the
-- store came in this run; damage is told where the rows are those of a state in neither version, and an older
-- version nowhere.
abbrev pub NotUpgraded : Flow → Flow → Flow → Flow → Store → Store → End → Type 0
NotUpgraded input input' output output' store store' end =
    (input' ≡ input) × (output' ≡ output) × (store'.rows ≡ store.rows)
    × ((fault : LoadFault) × Unloaded fault end × (fault ≡ StoreFault → Rose store.faults store'.faults)
    × ((found : ℕ) → fault ≢ OlderStore found)
    × UpgradesAll store.rows (Err fault) × WhereTold store.rows (TellsDamaged (Err fault)))

-- How `upgrade` ends: it makes a store of the first version today's, leaves one of today's as it is, writes
-- how many routers have new rows, and reads nothing.
abbrev pub UpgradeEnds : Flow → Flow → Flow → Flow → Store → Store → End → Type 0
UpgradeEnds input input' output output' store store' Done =
    (n : ℕ) × Told store.rows store'.rows (Upgrades n) × UpgradesAll store.rows (Ok n) × (input' ≡ input)
    × Takes output.bytes output'.bytes (upgraded_text n)
UpgradeEnds input input' output output' store store' WriteFault =
    (n : ℕ) × Told store.rows store'.rows (Upgrades n) × UpgradesAll store.rows (Ok n) × (input' ≡ input)
    × TakesPart output.bytes output'.bytes (upgraded_text n) × Rose output.faults output'.faults
UpgradeEnds input input' output output' store store' NoMemory =
    (input' ≡ input) × (output' ≡ output) × (store'.rows ≡ store.rows)
UpgradeEnds input input' output output' store store' end =
    NotUpgraded input input' output output' store store' end

-- How `demo` ends: it writes how large the demo exchange with so many members is.
abbrev pub DemoEnds : ℕ → Flow → Flow → End → Type 0
DemoEnds members output output' Done = Takes output.bytes output'.bytes (demo_text members)
DemoEnds members output output' WriteFault =
    TakesPart output.bytes output'.bytes (demo_text members) × Rose output.faults output'.faults
DemoEnds members output output' NoMemory = output' ≡ output
DemoEnds members output output' end = ⊥

-- How `ixf` ends: it asks the clock, and then the question for the export at the second that the clock gave.
abbrev pub ExportEnds : Flow → Flow → Flow → Flow → Option ℕ → Option ℕ → End → Type 0
ExportEnds input input' output output' given given' end =
    (second : ℕ) × Told given given' (λ before last. last ≡ second)
    × QuestionEnds (Export second) input input' output output' end

-- How a run ends. Words that are no command end as usage, with nothing read or written. A question leaves the
-- keeper alone. `ixf` alone asks the clock, of which it is said what it gave last. A command that waits
-- doesn't run here.
abbrev pub Ends : Option Command → Flow → Flow → Flow → Flow → Store → Store → Option ℕ → Option ℕ → End
    → Type 0
Ends None input input' output output' store store' given given' end =
    (end ≡ Usage) × (input' ≡ input) × (output' ≡ output) × (store' ≡ store) × (given' ≡ given)
Ends (Some (Ask question)) input input' output output' store store' given given' end =
    QuestionEnds question input input' output output' end × (store' ≡ store) × (given' ≡ given)
Ends (Some Ixf) input input' output output' store store' given given' end =
    ExportEnds input input' output output' given given' end × (store' ≡ store)
Ends (Some Restore) input input' output output' store store' given given' end =
    RestoreEnds input input' output output' store store' end × (given' ≡ given)
Ends (Some Dump) input input' output output' store store' given given' end =
    DumpEnds input input' output output' store store' end × (given' ≡ given)
Ends (Some Upgrade) input input' output output' store store' given given' end =
    UpgradeEnds input input' output output' store store' end × (given' ≡ given)
Ends (Some (Demo members)) input input' output output' store store' given given' end =
    DemoEnds members output output' end × (input' ≡ input) × (store' ≡ store) × (given' ≡ given)
Ends (Some (Wait waiting)) input input' output output' store store' given given' end = ⊥

-- Which command doesn't run without a handle to wait with.
abbrev pub waits : Option Command → Bool
waits (Some (Wait waiting)) = true
waits (Some Dump) = false
waits (Some Upgrade) = false
waits (Some (Demo members)) = false
waits (Some Restore) = false
waits (Some (Ask question)) = false
waits (Some Ixf) = false
waits None = false

-- How a run ends of a command that doesn't wait; of one that does nothing is done, and it comes back.
abbrev pub PlainEnds : Option Command → Flow → Flow → Flow → Flow → Store → Store → Option ℕ → Option ℕ
    → Result End Waiting → Type 0
PlainEnds command input input' output output' store store' given given' (Err waiting) =
    (command ≡ Some (Wait waiting)) × (input' ≡ input) × (output' ≡ output) × (store' ≡ store)
    × (given' ≡ given)
PlainEnds command input input' output output' store store' given given' (Ok end) =
    (waits command ≡ false) × Ends command input input' output output' store store' given given' end

-- the errors took the line, or a first part of it, and a write failed
abbrev pub Tells : Flow → Flow → List ℕ → Type 0
Tells before after line = Takes before.bytes after.bytes line
    ⊎ (TakesPart before.bytes after.bytes line × Rose before.faults after.faults)

-- what is told of an end: the status, and a line on the errors
abbrev pub IsTold : End → Flow → Flow → Option ℕ → Type 0
IsTold end before after status = (status ≡ Some (status_of end)) × Tells before after (error_text end)

-- A run of a command: it ends in one way, which its status says, and of which a line on the errors tells.
pub record Runs (command : Option Command) (before after : Outside) (status : Option ℕ) : Type 0 where
  pub end : End
  pub ends : Ends command before.input after.input before.output after.output before.store after.store before.second after.second end
  pub told : IsTold end before.errors after.errors status

-- A run of a command that doesn't wait has a status. Of one that does nothing is done here.
abbrev pub PlainRuns : Option Command → Outside → Outside → Option ℕ → Type 0
PlainRuns command before after None = (waits command ≡ true) × (after ≡ before)
PlainRuns command before after (Some status) =
    (waits command ≡ false) × Runs command before after (Some status)

-- The same, where a command that waits comes back.
abbrev pub CommandRuns : Option Command → Outside → Outside → Result ℕ Waiting → Type 0
CommandRuns command before after (Err waiting) = (command ≡ Some (Wait waiting)) × (after ≡ before)
CommandRuns command before after (Ok status) =
    (waits command ≡ false) × Runs command before after (Some status)

-- the statuses that a run may have
abbrev pub IsStatus : Option ℕ → Type 0
IsStatus None = ⊥
IsStatus (Some n) = IsTrue (n == 0 || n == 1 || n == 2 || n == 3 || n == 4 || n == 5 || n == 6 || n == 7
    || n == 8 || n == 9 || n == 10 || n == 11)

-- the command reads its input to its end before it answers
abbrev pub reads_whole : Command → Bool
reads_whole (Ask question) = true
reads_whole Ixf = true
reads_whole Restore = true
reads_whole Dump = false
reads_whole Upgrade = false
reads_whole (Demo members) = false
reads_whole (Wait waiting) = false

-- how a run ends whose input is longer than the limit: it is refused as such, or a read failed, or memory ran
-- out
abbrev pub IsLongEnd : End → Type 0
IsLongEnd (BadInput cause) = cause ≡ too_long
IsLongEnd ReadFault = Unit {0}
IsLongEnd NoMemory = Unit {0}
IsLongEnd end = ⊥

-- how a run ends whose input the question answers so: the output took the answer, or memory ran out, or a
-- read or a write failed
abbrev pub IsAnswered : List ℕ → Flow → Flow → Flow → Flow → End → Type 0
IsAnswered answer input input' output output' Done = Takes output.bytes output'.bytes answer
IsAnswered answer input input' output output' ReadFault = Rose input.faults input'.faults
IsAnswered answer input input' output output' WriteFault = Rose output.faults output'.faults
IsAnswered answer input input' output output' NoMemory = Unit {0}
IsAnswered answer input input' output output' end = ⊥

-- how `restore` ends with the dump of this registry and an empty keeper: that has the registry's rows, or
-- memory ran out, or a read, a write or the keeper failed
abbrev pub IsRestored : Registry → Outside → Outside → End → Type 0
IsRestored r before after Done =
    Fills r before.store after.store × Takes before.output.bytes after.output.bytes (Restores r)
IsRestored r before after ReadFault = Rose before.input.faults after.input.faults
IsRestored r before after WriteFault = Rose before.output.faults after.output.faults
IsRestored r before after KeeperFault = Rose before.store.faults after.store.faults
IsRestored r before after NoMemory = Unit {0}
IsRestored r before after end = ⊥
