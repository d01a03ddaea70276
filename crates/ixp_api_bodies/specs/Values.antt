-- What a field of a body says.
use Rattle.std.specs.Prelude.{◌≡◌, ℕ, ◌^◌, List, Bool, true, false, ◌==◌, nat_lt, length, Option, Some, None, Result, Ok, Err, option_map, option_and_then, if◌then◌else◌}
use Rattle.std.specs.Option.{is_some}
use Rattle.std.specs.Str.{is_utf8}
use Rattle.serde_json.specs.Data.{Data, Items, no_items, item}
use Rattle.serde_json.specs.Find.{get, as_null, as_bool, as_number, as_u64, as_str, as_array, as_object}
use Rattle.serde_json.specs.Read.{read}
use Rattle.ixp_num.specs.declared.addr.Addr.{Addr}
use Rattle.ixp_num.specs.declared.fault.NumFault.{NumFault}
use Rattle.ixp_num.specs.declared.family.Family.{Family}
use Rattle.ixp_num.specs.declared.family.Family.TheVariants.{V4, V6}
use Rattle.ixp_num.specs.declared.prefix.Prefix.{Prefix}
use Rattle.ixp_num.specs.Answers.{AddrAnswer, PrefixAnswer}
use Rattle.ixp_num.specs.Families.{same_family}
use Rattle.ixp_registry.specs.declared.members.Status.{Status}
use Rattle.ixp_registry.specs.declared.rules.Way.{Way}
use Rattle.ixp_registry.specs.declared.rules.Action.{Action}
use Rattle.ixp_api_json.specs.declared.field.Field.{Field}
use Rattle.ixp_api_json.specs.declared.pointer.CallFault.{CallFault}
use Rattle.ixp_api_json.specs.declared.pointer.CallFault.TheVariants.{BadBody}
use Rattle.ixp_api_json.specs.declared.pointer.Pointer.TheVariants.{Whole, At}
use Rattle.ixp_api_json.specs.declared.words.OwnerKind.{OwnerKind}
use Rattle.ixp_api_json.specs.Fields.{word_of}
use Rattle.ixp_api_json.specs.Words.{status_of, way_of, action_of, owner_kind_of}
use Rattle.ixp_api_bodies.specs.declared.json.TheConstants.{JSON_LIMIT}
use Rattle.ixp_api_bodies.specs.Answers.{must, read_then}

-- ---- bodies

abbrev pub whole : CallFault
whole = BadBody Whole

-- The value that a body is. `read` takes nesting up to 127 levels, and the last of members with one name.
abbrev pub value_of : List ℕ → Result Data CallFault
value_of body = must Whole (if is_utf8 body then read body else None)

-- The value that a body is which isn't too long. A longer one is at fault as a whole.
abbrev pub value_within : List ℕ → Result Data CallFault
value_within body = if nat_lt JSON_LIMIT (length body) then Err whole else value_of body

abbrev pub only_object : Data → Result Data CallFault
only_object d = if is_some (as_object d) then Ok d else Err whole

abbrev pub long_object_of : List ℕ → Result Data CallFault
long_object_of body = read_then (value_of body) only_object

abbrev pub object_of : List ℕ → Result Data CallFault
object_of body = read_then (value_within body) only_object

abbrev pub all_objects : Items → Bool
all_objects no_items = true
all_objects (item d ds) = if is_some (as_object d) then all_objects ds else false

abbrev pub are_objects : Data → Bool
are_objects d = list_of_objects (as_array d)
  where
    list_of_objects : Option Items → Bool
    list_of_objects None = false
    list_of_objects (Some items) = all_objects items

-- a list of objects
abbrev pub objects_of : List ℕ → Result Data CallFault
objects_of body = read_then (value_within body) (λ d. if are_objects d then Ok d else Err whole)

-- ---- fields

abbrev pub field : Field → Data → Option Data
field f d = get (word_of f) d

abbrev pub small : ℕ → Option ℕ
small n = if nat_lt n (2 ^ 32) then Some n else None

-- a number of 32 bits
abbrev pub number_at : Data → Option ℕ
number_at v = option_and_then small (option_and_then as_u64 (as_number v))

abbrev pub number_in : Field → Data → Option ℕ
number_in f d = option_and_then number_at (field f d)

abbrev pub text_in : Field → Data → Option (List ℕ)
text_in f d = option_and_then as_str (field f d)

abbrev pub flag_in : Field → Data → Option Bool
flag_in f d = option_and_then as_bool (field f d)

abbrev pub status_in : Field → Data → Option Status
status_in f d = option_and_then status_of (text_in f d)

abbrev pub way_in : Field → Data → Option Way
way_in f d = option_and_then way_of (text_in f d)

abbrev pub action_in : Field → Data → Option Action
action_in f d = option_and_then action_of (text_in f d)

abbrev pub owner_kind_in : Field → Data → Option OwnerKind
owner_kind_in f d = option_and_then owner_kind_of (text_in f d)

-- the number 4 or 6
abbrev pub family_of : ℕ → Option Family
family_of n = if n == 4 then Some V4 else (if n == 6 then Some V6 else None)

abbrev pub family_in : Field → Data → Option Family
family_in f d = option_and_then family_of (number_in f d)

-- what is there, None within for null
abbrev pub null_or : {A : Type 0} → Option Data → Option A → Option (Option A)
null_or None o = None
null_or (Some v) o = if is_some (as_null v) then Some None else option_map Some o

-- the same, where nothing is null
abbrev pub nothing_or : {A : Type 0} → Option Data → Option A → Option (Option A)
nothing_or None o = Some None
nothing_or (Some v) o = null_or (Some v) o

abbrev pub number_or_null : Field → Data → Option (Option ℕ)
number_or_null f d = null_or (field f d) (number_in f d)

-- a number, 0 where nothing is there
abbrev pub number_or_zero : Field → Data → Option ℕ
number_or_zero f d = or_zero (field f d)
  where
    or_zero : Option Data → Option ℕ
    or_zero None = Some 0
    or_zero (Some v) = number_at v

abbrev pub number : Field → Data → Result ℕ CallFault
number f d = must (At f) (number_in f d)

abbrev pub text : Field → Data → Result (List ℕ) CallFault
text f d = must (At f) (text_in f d)

abbrev pub flag : Field → Data → Result Bool CallFault
flag f d = must (At f) (flag_in f d)

-- ---- texts of addresses and prefixes

abbrev pub read_as : {A : Type 0} → Result A NumFault → Option A
read_as (Ok x) = Some x
read_as (Err e) = None

-- an address's text, in any of its spellings (RFC 4291)
abbrev pub SaysAddress : List ℕ → Option Addr → Type 0
SaysAddress t o = (x : Result Addr NumFault) × AddrAnswer t x × (o ≡ read_as x)

abbrev pub SaysPrefix : List ℕ → Option Prefix → Type 0
SaysPrefix t o = (x : Result Prefix NumFault) × PrefixAnswer t x × (o ≡ read_as x)

-- the number of an IPv4 address
abbrev pub number_of : Addr → Option ℕ
number_of a = if same_family a.family V4 then Some a.value else None

abbrev pub SaysIdentifier : List ℕ → Option ℕ → Type 0
SaysIdentifier t o = (a : Option Addr) × SaysAddress t a × (o ≡ option_and_then number_of a)

-- where there is a text, what it says
abbrev pub TextSays : {A : Type 0} → (List ℕ → Option A → Type 0) → Option (List ℕ) → Option A → Type 0
TextSays Says None o = o ≡ None
TextSays Says (Some t) o = Says t o

abbrev pub AddressIn : Field → Data → Option Addr → Type 0
AddressIn f d o = TextSays SaysAddress (text_in f d) o

abbrev pub PrefixIn : Field → Data → Option Prefix → Type 0
PrefixIn f d o = TextSays SaysPrefix (text_in f d) o

abbrev pub IdentifierIn : Field → Data → Option ℕ → Type 0
IdentifierIn f d o = TextSays SaysIdentifier (text_in f d) o

-- a prefix's text or null
abbrev pub PrefixOrNull : Field → Data → Option (Option Prefix) → Type 0
PrefixOrNull f d o = (p : Option Prefix) × PrefixIn f d p × (o ≡ null_or (field f d) p)

-- an address's text, null, or nothing
abbrev pub AddressOrNothing : Field → Data → Option (Option Addr) → Type 0
AddressOrNothing f d o = (a : Option Addr) × AddressIn f d a × (o ≡ nothing_or (field f d) a)
