-- What is answered of a text: what is said of it is exactly this, unless memory runs out.
use Rattle.std.specs.Prelude.{◌≡◌, List, ℕ, Option, Some, None, Result, Ok, Err, Vec}
use Rattle.std.specs.declared.alloc.Global.{Global}
use Rattle.ixp_lang.specs.Faults.{pair_range, no_return, no_verdict, no_filter, CallFault, failed, ended}
use Rattle.ixp_lang.specs.Trees.{ItemTree}
use Rattle.ixp_eval.specs.declared.fault.CallFault.{CallFault as NoValue}
use Rattle.ixp_eval.specs.declared.fault.CallFault.TheVariants as call
use Rattle.ixp_eval.specs.declared.fault.EvalFault.TheVariants as fault
use Rattle.ixp_read.specs.Answers.{SpellsText, ConfigAnswer, IsTold}
use Rattle.ixp_explain.specs.declared.report.ExplainFault.{ExplainFault}
use Rattle.ixp_explain.specs.declared.report.ExplainFault.TheVariants as told
use Rattle.ixp_explain.specs.Explained.{Trouble, other_family, faulty, misshapen}

-- a fault of the language, as the program names it; running out of memory is none
abbrev pub fault_of : NoValue → Option CallFault
fault_of call.Ended = Some ended
fault_of (call.Failed fault.NoMemory) = None
fault_of (call.Failed (fault.PairRange n)) = Some (failed (pair_range n))
fault_of (call.Failed (fault.NoReturn n)) = Some (failed (no_return n))
fault_of (call.Failed (fault.NoVerdict n)) = Some (failed (no_verdict n))
fault_of (call.Failed (fault.NoFilter n)) = Some (failed (no_filter n))

abbrev pub IsFaulty : {A : Type 0} → Option CallFault → Result A Trouble → Type 0
IsFaulty None outcome = ⊥
IsFaulty (Some f) outcome = Err (faulty f) ≡ outcome

-- why nothing is said of a text that is read
abbrev pub Troubled : {A : Type 0} → Result A Trouble → ExplainFault → Type 0
Troubled outcome told.NoMemory = Unit {0}
Troubled outcome (told.Unread f) = ⊥
Troubled outcome (told.Family family) = Err (other_family family) ≡ outcome
Troubled outcome (told.Fault f) = IsFaulty (fault_of f) outcome
Troubled outcome (told.Shape name) = Err (misshapen name) ≡ outcome

-- the answer is this outcome
abbrev pub Tells : {A : Type 0} → Result A ExplainFault → Result A Trouble → Type 0
Tells (Ok x) outcome = Ok x ≡ outcome
Tells (Err f) outcome = Troubled outcome f

-- the text is no configuration, told as its reader tells it; or running out of memory
abbrev pub IsUnread : List ℕ → ExplainFault → Type 0
IsUnread text told.NoMemory = Unit {0}
IsUnread text (told.Unread f) = IsTold (Err f) × ConfigAnswer text (Err f)
IsUnread text _ = ⊥

-- the text spells a configuration, by which the outcome is this
abbrev pub Spelt : {A : Type 0} → List ℕ → (List ItemTree → Result A Trouble) → Result A ExplainFault → Type 0
Spelt text outcome answer = (items : List ItemTree) × SpellsText text items × Tells answer (outcome items)

-- The answer to a question about a text. A text that is no configuration is told as its reader tells it; all
-- else is the outcome by the configuration that the text spells. Running out of memory is free.
abbrev pub Answers : {A : Type 0} → List ℕ → (List ItemTree → Result A Trouble) → Result A ExplainFault
    → Type 0
Answers text outcome (Err told.NoMemory) = Unit {0}
Answers text outcome (Err (told.Unread f)) = IsUnread text (told.Unread f)
Answers text outcome (Err (told.Family family)) = Spelt text outcome (Err (told.Family family))
Answers text outcome (Err (told.Fault f)) = Spelt text outcome (Err (told.Fault f))
Answers text outcome (Err (told.Shape name)) = Spelt text outcome (Err (told.Shape name))
Answers text outcome (Ok x) = Spelt text outcome (Ok x)

-- an answer that is a text, by its bytes
abbrev pub in_bytes : Result (Vec ℕ Global) ExplainFault → Result (List ℕ) ExplainFault
in_bytes (Ok text) = Ok text.items
in_bytes (Err f) = Err f
