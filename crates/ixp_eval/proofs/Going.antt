-- A walk that goes on, or fails.
use Rattle.std.specs.Prelude.{◌≡◌, List, [], ◌∷◌, ◌++◌, Result, Ok, Err, refl}
use Rattle.std.proofs.Common.{ap, append_assoc}
use Rattle.ixp_lang.specs.Faults.{Fault}
use Rattle.ixp_lang.specs.Walks.{◌>>=◌}
use Rattle.ixp_eval.specs.declared.fault.EvalFault.{EvalFault}
use Rattle.ixp_eval.specs.Answers.{Fails}
use Rattle.ixp_eval.proofs.Passing.{passed}

pub bind_fails : {A B : Type 0} (w : Result A Fault) (k : A → Result B Fault) (f : EvalFault) → Fails Err w f → Fails Err (w >>= k) f
bind_fails w k f p = passed Err Err (λ w. w >>= k) (λ x. refl) w f p

-- after these
abbrev pub carried : {A : Type 0} → List A → Result (List A) Fault → Result (List A) Fault
carried xs w = w >>= λ ys. Ok (xs ++ ys)

pub carried_one : {A : Type 0} (xs : List A) (x : A) (w : Result (List A) Fault) → carried (xs ++ x ∷ []) w ≡ carried xs (w >>= λ ys. Ok (x ∷ ys))
carried_one xs x (Ok ys) = ap Ok (append_assoc xs (x ∷ []) ys)
carried_one xs x (Err f) = refl
