-- A fault is passed on.
use Rattle.std.specs.Prelude.{◌≡◌, ℕ, List, Result, Err, refl}
use Rattle.std.proofs.Common.{ap, ◌∙◌}
use Rattle.ixp_lang.specs.declared.route.Route.{Route}
use Rattle.ixp_lang.specs.declared.value.Value.{Value}
use Rattle.ixp_lang.specs.Faults.{Fault, failed}
use Rattle.ixp_lang.specs.Meaning.{End, fails, must_return}
use Rattle.ixp_eval.specs.declared.fault.EvalFault.{EvalFault}
use Rattle.ixp_eval.specs.declared.fault.EvalFault.TheVariants as fault
use Rattle.ixp_eval.specs.Answers.{Fails}
use Rattle.ixp_eval.specs.Machine.{Todo, Act, faulty, acted}
use Rattle.ixp_eval.specs.Frames.{Body, Wait, breaks, next_of, moves}

-- through a function of outcomes
pub passed : {A B : Type 0} (g : Fault → A) (h : Fault → B) (up : A → B) → ((x : Fault) → h x ≡ up (g x)) → (w : A) (f : EvalFault) → Fails g w f → Fails h (up w) f
passed g h up e w fault.NoMemory p = tt
passed g h up e w (fault.PairRange n) p = e _ ∙ ap up p
passed g h up e w (fault.NoReturn n) p = e _ ∙ ap up p
passed g h up e w (fault.NoVerdict n) p = e _ ∙ ap up p
passed g h up e w (fault.NoFilter n) p = e _ ∙ ap up p

pub applied_fails : (w : Result (List Value) Fault) (ts : List Todo) (r : Route) (f : EvalFault) → Fails Err w f → Fails faulty (acted w ts r) f
applied_fails w ts r f p = passed Err faulty (λ w. acted w ts r) (λ x. refl) w f p

pub entered_fails : (w : Result (Body × List Wait) Fault) (r : Route) (f : EvalFault) → Fails Err w f → Fails breaks (next_of w r) f
entered_fails w r f p = passed Err breaks (λ w. next_of w r) (λ x. refl) w f p

-- a fault inside the running body
pub step_fails : (a : Act) (b : Body) (ws : List Wait) (f : EvalFault) → Fails faulty a f → Fails breaks (moves a b ws) f
step_fails a b ws f p = passed faulty breaks (λ a. moves a b ws) (λ x. refl) a f p

-- a fault inside a function that is called for its value
pub call_fails : (n : List ℕ) (e : End) (f : EvalFault) → Fails fails e f → Fails (λ x. Err (failed x)) (must_return n e) f
call_fails n e f p = passed fails (λ x. Err (failed x)) (must_return n) (λ x. refl) e f p
