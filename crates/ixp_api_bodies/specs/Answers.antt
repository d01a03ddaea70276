-- What a reader of bodies may answer: what is said of the body, or running out of memory.
use Rattle.std.specs.Prelude.{◌≡◌, Bool, true, false, Option, Some, None, Result, Ok, Err}
use Rattle.serde_json.specs.Data.{Data}
use Rattle.serde_json.specs.View.{view}
use Rattle.serde_json.specs.declared.value.Value.{Value}
use Rattle.ixp_api_json.specs.declared.pointer.Pointer.{Pointer}
use Rattle.ixp_api_json.specs.declared.pointer.CallFault.{CallFault}
use Rattle.ixp_api_json.specs.declared.pointer.CallFault.TheVariants.{NoPath, NoMethod, BadBody, NoMemory}

abbrev pub is_memory : CallFault → Bool
is_memory NoPath = false
is_memory NoMethod = false
is_memory (BadBody pointer) = false
is_memory NoMemory = true

-- The answer is one of which this is said, or running out of memory, which is free.
abbrev pub Gives : {A : Type 0} → (Result A CallFault → Type 0) → Result A CallFault → Type 0
Gives Says (Ok x) = Says (Ok x)
Gives Says (Err e) = is_memory e ≡ false → Says (Err e)

-- what is there, or the fault at its place
abbrev pub must : {A : Type 0} → Pointer → Option A → Result A CallFault
must pointer None = Err (BadBody pointer)
must pointer (Some x) = Ok x

-- what follows, where nothing was wrong so far
abbrev pub read_then : {A B : Type 0} → Result A CallFault → (A → Result B CallFault) → Result B CallFault
read_then (Ok x) next = next x
read_then (Err e) next = Err e

-- the same, where what follows is a sentence on the answer
abbrev pub ThenSays : {A B : Type 0} → Result A CallFault → (A → Result B CallFault → Type 0)
    → Result B CallFault → Type 0
ThenSays (Ok x) Next r = Next x r
ThenSays (Err e) Next r = r ≡ Err e

abbrev pub result_view : Result Value CallFault → Result Data CallFault
result_view (Ok v) = Ok (view v)
result_view (Err e) = Err e
