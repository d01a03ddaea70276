-- Why an input of `eval` is refused.
use Rattle.std.proofs.Common.{◌≡◌, ◌≢◌, ◌↔◌, ℕ, true, false, IsTrue, ◌⊎◌, subst, List, Option, Some, None, Ok, Err, inl, inr, refl, sym, ap, ◌∙◌}
use Rattle.ixp_lang.specs.declared.item.Bgp.{Bgp}
use Rattle.ixp_lang.specs.Trees.{ItemTree}
use Rattle.ixp_lang.specs.Walks.{bgp_sessions, session_named}
use Rattle.ixp_eval_trial.specs.declared.trial.Trial.{Trial}
use Rattle.ixp_num.specs.declared.cause.Cause.{Cause}
use Rattle.ixp_eval_trial.specs.declared.fault.TrialFault.{TrialFault}
use Rattle.ixp_eval_trial.specs.Causes.{cause_of}
use Rattle.ixp_eval_trial.specs.Trials.{TrialAnswer}
use Rattle.ixp_cli_plain.specs.declared.end.NoAnswer.{NoAnswer}
use Rattle.ixp_cli_plain.specs.declared.end.NoAnswer.TheVariants.{Bad, Unknown, BadObjects, NoMemory}
use Rattle.ixp_cli_plain.specs.Evals.{IsConfiguration, IsOfOtherFamily, IsNoText, IsNoTrial, IsNoEval, IsRefused}
use Rattle.ixp_cli_plain.specs.Runs.{Refused, no_answer}

same_session : (items : List ItemTree) (n : List ℕ) (b c : Bgp) → session_named (bgp_sessions items) n ≡ Some b → session_named (bgp_sessions items) n ≡ Some c → b ≡ c
same_session items n b c here there = let one : ◌≡◌ {A = Option Bgp} (Some b) (Some c) = sym here ∙ there in cc

pub of_other_family : (items : List ItemTree) (t : Trial) (b : Bgp) → session_named (bgp_sessions items) t.session ≡ Some b → b.family ≢ t.route.net.family → IsTrue true ↔ IsOfOtherFamily items t
of_other_family items t b named ne = ((λ _. (b, named, ne)), λ _. refl)

pub of_one_family : (items : List ItemTree) (t : Trial) (b : Bgp) → session_named (bgp_sessions items) t.session ≡ Some b → b.family ≡ t.route.net.family → IsTrue false ↔ IsOfOtherFamily items t
of_one_family items t b named same =
    ((λ e. absurd (let h : ◌≡◌ false true = e in cc)), λ other. absurd (other.2 (ap (λ x. x.family) (same_session items t.session other.0 b other.1 named) ∙ same)))

told : (items : List ItemTree) (input : List ℕ) (fault : TrialFault) → (TrialAnswer input (Err fault)) ⊎ ((t : Trial) × TrialAnswer input (Ok t) × IsRefused items t fault)
    → (o : Option Cause) → cause_of fault ≡ o → Refused (IsNoTrial items input) (no_answer o)
told items input fault why (Some cause) e = (fault, e, why)
told items input fault why None e = tt

-- there is no trial
pub no_trial : (items : List ItemTree) (input : List ℕ) (fault : TrialFault) (why : NoAnswer) → TrialAnswer input (Err fault) → why ≡ no_answer (cause_of fault)
    → Refused (IsNoTrial items input) why
no_trial items input fault why none e = subst (Refused (IsNoTrial items input)) (sym e) (told items input fault (inl none) (cause_of fault) refl)

-- there is one that the configuration can't take
pub not_taken : (items : List ItemTree) (input : List ℕ) (t : Trial) (fault : TrialFault) (why : NoAnswer) → TrialAnswer input (Ok t) → IsRefused items t fault
    → why ≡ no_answer (cause_of fault) → Refused (IsNoTrial items input) why
not_taken items input t fault why is refused e = subst (Refused (IsNoTrial items input)) (sym e) (told items input fault (inr (t, is, refused)) (cause_of fault) refl)

pub bad_text : (input : List ℕ) (why : NoAnswer) → Refused (IsNoText input) why → Refused (IsNoEval input) why
bad_text input (Bad cause) e = inl e
bad_text input (Unknown router) e = absurd e
bad_text input (BadObjects cause) e = absurd e
bad_text input NoMemory e = tt

pub bad_trial : (input : List ℕ) (items : List ItemTree) (why : NoAnswer) → IsConfiguration input items → Refused (IsNoTrial items input) why → Refused (IsNoEval input) why
bad_trial input items (Bad cause) is e = inr (items, is, e)
bad_trial input items (Unknown router) is e = absurd e
bad_trial input items (BadObjects cause) is e = absurd e
bad_trial input items NoMemory is e = tt
