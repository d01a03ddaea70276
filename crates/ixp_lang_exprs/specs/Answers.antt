-- What the program's functions answer, against what is said of them; running out of memory is free where
-- memory is taken.
use Rattle.std.specs.Prelude.{◌≡◌, ℕ, List, Option, Some, None, Result, Ok, Err}
use Rattle.ixp_lang_tokens.specs.declared.fault.Cause.{Cause}
use Rattle.ixp_lang_tokens.specs.declared.fault.Fault.{Fault}
use Rattle.ixp_lang_tokens.specs.declared.fault.Fault.TheVariants.{NoMemory, Stop}
use Rattle.ixp_lang_tokens.specs.declared.token.Kind.{Kind}
use Rattle.ixp_lang_tokens.specs.Reading.{Read}

-- a test that does not allocate refuses for this, if for anything
abbrev pub Refuses : Result (Unit {0}) Fault → Option (Cause × ℕ) → Type 0
Refuses (Ok passed) r = r ≡ None
Refuses (Err NoMemory) r = ⊥
Refuses (Err (Stop cause left)) r = r ≡ Some (cause, left)

-- this is made, and nothing but running out of memory hinders it
abbrev pub Makes : {X A : Type 0} → (X → A) → Result X Fault → A → Type 0
Makes view (Ok x) a = view x ≡ a
Makes view (Err NoMemory) a = Unit {0}
Makes view (Err (Stop cause left)) a = ⊥

-- what is read is what is read from here on
abbrev pub Leads : {X A : Type 0} → (X → Read A) → Result X Fault → Read A → Type 0
Leads next (Ok x) r = r ≡ next x
Leads next (Err NoMemory) r = Unit {0}
Leads next (Err (Stop cause left)) r = r ≡ Err (cause, left)

abbrev pub fault_of : Cause × ℕ → Fault
fault_of fault = Stop fault.0 fault.1

-- this is made where there is no such fault
abbrev pub Passes : {X A : Type 0} → (X → A) → Result X Fault → Option (Cause × ℕ) → A → Type 0
Passes view (Ok x) fault a = (fault ≡ None) × (view x ≡ a)
Passes view (Err NoMemory) fault a = Unit {0}
Passes view (Err (Stop cause left)) fault a = fault ≡ Some (cause, left)

-- what is read is told, if there is anything to tell yet
abbrev pub Begun : {X A : Type 0} → (X → A × List Kind) → Result (Option X) Fault → Option (Read A) → Type 0
Begun view (Ok None) r = r ≡ None
Begun view (Ok (Some x)) r = r ≡ Some (Ok (view x))
Begun view (Err NoMemory) r = Unit {0}
Begun view (Err (Stop cause left)) r = r ≡ Some (Err (cause, left))
