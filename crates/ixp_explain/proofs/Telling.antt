-- What one step tells, the whole tells.
use Rattle.std.specs.Prelude.{◌≡◌, List, ℕ, [], ◌∷◌, ◌++◌, Option, Some, None, Result, Ok, Err, refl}
use Rattle.std.proofs.Common.{ap, append_assoc}
use Rattle.ixp_lang.specs.declared.value.Value.{Value}
use Rattle.ixp_lang.specs.Faults.{Fault, CallFault, failed}
use Rattle.ixp_lang.specs.Trees.{ItemTree}
use Rattle.ixp_eval.specs.declared.fault.CallFault.{CallFault as NoValue}
use Rattle.ixp_eval.specs.declared.fault.CallFault.TheVariants as call
use Rattle.ixp_eval.specs.declared.fault.EvalFault.{EvalFault}
use Rattle.ixp_eval.specs.declared.fault.EvalFault.TheVariants as fault
use Rattle.ixp_eval.specs.Answers.{Fails, CallGives}
use Rattle.ixp_read.specs.Answers.{SpellsText}
use Rattle.ixp_explain.specs.declared.report.ExplainFault.{ExplainFault}
use Rattle.ixp_explain.specs.declared.report.ExplainFault.TheVariants as told
use Rattle.ixp_explain.specs.Answers.{Answers, IsFaulty, IsUnread, Tells, Troubled, fault_of}
use Rattle.ixp_explain.specs.Explained.{Trouble, and_then, called, run}
use Rattle.ixp_explain.specs.Troubles.{told_call, told_fault}

faulty_on : {A B : Type 0} (o : Result A Trouble) (g : A → Result B Trouble) (f : Option CallFault) → IsFaulty f o → IsFaulty f (and_then o g)
faulty_on o g None p = p
faulty_on o g (Some f) p = ap (λ o. and_then o g) p

pub troubled_on : {A B : Type 0} (o : Result A Trouble) (g : A → Result B Trouble) (e : ExplainFault) → Troubled o e → Troubled (and_then o g) e
troubled_on o g told.NoMemory p = tt
troubled_on o g (told.Unread f) p = p
troubled_on o g (told.Family family) p = ap (λ o. and_then o g) p
troubled_on o g (told.Fault f) p = faulty_on o g (fault_of f) p
troubled_on o g (told.Shape name) p = ap (λ o. and_then o g) p

pub run_fails : {A : Type 0} (o : Result A Fault) (f : EvalFault) → Fails Err o f → Troubled (run o) (told_fault f)
run_fails o fault.NoMemory p = tt
run_fails o (fault.PairRange n) p = ap run p
run_fails o (fault.NoReturn n) p = ap run p
run_fails o (fault.NoVerdict n) p = ap run p
run_fails o (fault.NoFilter n) p = ap run p

failed_fails : (o : Result Value CallFault) (f : EvalFault) → Fails (λ x. Err (failed x)) o f → Troubled (called o) (told_fault f)
failed_fails o fault.NoMemory p = tt
failed_fails o (fault.PairRange n) p = ap called p
failed_fails o (fault.NoReturn n) p = ap called p
failed_fails o (fault.NoVerdict n) p = ap called p
failed_fails o (fault.NoFilter n) p = ap called p

pub called_fails : (o : Result Value CallFault) (f : NoValue) → CallGives (Err f) o → Troubled (called o) (told_call f)
called_fails o call.Ended p = ap called p
called_fails o (call.Failed f) p = failed_fails o f p

pub told_of : {A : Type 0} (text : List ℕ) (outcome : List ItemTree → Result A Trouble) (answer : Result A ExplainFault) (items : List ItemTree) → SpellsText text items → Tells answer (outcome items) → Answers text outcome answer
told_of text outcome (Ok x) items spelt tells = (items, spelt, tells)
told_of text outcome (Err told.NoMemory) items spelt tells = tt
told_of text outcome (Err (told.Unread f)) items spelt tells = absurd tells
told_of text outcome (Err (told.Family family)) items spelt tells = (items, spelt, tells)
told_of text outcome (Err (told.Fault f)) items spelt tells = (items, spelt, tells)
told_of text outcome (Err (told.Shape name)) items spelt tells = (items, spelt, tells)

pub unread_of : {A : Type 0} (text : List ℕ) (outcome : List ItemTree → Result A Trouble) (e : ExplainFault) → IsUnread text e → Answers text outcome (Err e)
unread_of text outcome told.NoMemory unread = tt
unread_of text outcome (told.Unread f) unread = unread
unread_of text outcome (told.Family family) unread = absurd unread
unread_of text outcome (told.Fault f) unread = absurd unread
unread_of text outcome (told.Shape name) unread = absurd unread

pub ruleset telling = (troubled_on, run_fails, called_fails)

-- after these
abbrev pub carried : {A : Type 0} → List A → Result (List A) Trouble → Result (List A) Trouble
carried xs w = and_then w (λ ys. Ok (xs ++ ys))

pub carried_one : {A : Type 0} (xs : List A) (x : A) (w : Result (List A) Trouble) → carried (xs ++ x ∷ []) w ≡ carried xs (and_then w (λ ys. Ok (x ∷ ys)))
carried_one xs x (Ok ys) = ap Ok (append_assoc xs (x ∷ []) ys)
carried_one xs x (Err f) = refl
