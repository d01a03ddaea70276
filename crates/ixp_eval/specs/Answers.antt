-- What a call answers: exactly this outcome, unless memory runs out.
use Rattle.std.specs.Prelude.{◌≡◌, List, Result, Ok, Err}
use Rattle.ixp_lang.specs.declared.value.Value.{Value}
use Rattle.ixp_lang.specs.Faults.{Fault, pair_range, no_return, no_verdict, no_filter, CallFault, failed, ended}
use Rattle.ixp_eval.specs.declared.fault.CallFault.{CallFault as NoValue}
use Rattle.ixp_eval.specs.declared.fault.CallFault.TheVariants as call
use Rattle.ixp_eval.specs.declared.fault.EvalFault.{EvalFault}
use Rattle.ixp_eval.specs.declared.fault.EvalFault.TheVariants as fault

-- memory ran out, or the outcome is the fault, as `wrap` makes an outcome of a fault
abbrev pub Fails : {A : Type 0} → (Fault → A) → A → EvalFault → Type 0
Fails wrap outcome fault.NoMemory = Unit {0}
Fails wrap outcome (fault.PairRange n) = wrap (pair_range n) ≡ outcome
Fails wrap outcome (fault.NoReturn n) = wrap (no_return n) ≡ outcome
Fails wrap outcome (fault.NoVerdict n) = wrap (no_verdict n) ≡ outcome
Fails wrap outcome (fault.NoFilter n) = wrap (no_filter n) ≡ outcome

-- the stack after an operator is this outcome, or memory ran out
abbrev pub Applies : Result (Unit {0}) EvalFault → List Value → Result (List Value) Fault → Type 0
Applies (Ok u) vs outcome = Ok vs ≡ outcome
Applies (Err f) vs outcome = Fails Err outcome f

-- the answer is this outcome, faults included, or memory ran out
abbrev pub Gives : {A : Type 0} → Result A EvalFault → Result A Fault → Type 0
Gives (Ok x) outcome = Ok x ≡ outcome
Gives (Err f) outcome = Fails Err outcome f

-- the answer of a call for a value is this outcome, or memory ran out
abbrev pub CallGives : Result Value NoValue → Result Value CallFault → Type 0
CallGives (Ok x) outcome = Ok x ≡ outcome
CallGives (Err call.Ended) outcome = Err ended ≡ outcome
CallGives (Err (call.Failed f)) outcome = Fails (λ x. Err (failed x)) outcome f
