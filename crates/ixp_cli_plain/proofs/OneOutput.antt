-- An input of `eval` has one output.
use Rattle.std.proofs.Common.{◌≡◌, ◌≢◌, ℕ, List, Result, Ok, Err, sym, ap, ◌∙◌, subst}
use Rattle.ixp_lang.specs.Trees.{ItemTree}
use Rattle.ixp_lang.proofs.TableNames.{walk_same}
use Rattle.ixp_read.specs.Answers.{SpellsText}
use Rattle.ixp_read.proofs.AnswerLaws.{one_spelling}
use Rattle.ixp_eval_trial.specs.declared.fault.TrialFault.{TrialFault}
use Rattle.ixp_eval_trial.specs.declared.fault.TrialFault.TheVariants as trial_fault
use Rattle.ixp_eval_trial.specs.declared.trial.Trial.{Trial}
use Rattle.ixp_eval_trial.specs.Trials.{TrialAnswer}
use Rattle.ixp_eval_trial.proofs.OneTrial.{one_text, one_trial}
use Rattle.ixp_cli_plain.specs.Evals.{IsConfiguration, IsOutcome, outcome_text, Evaluates}

pub one_configuration : (input : List ℕ) (c d : List ItemTree) → IsConfiguration input c → IsConfiguration input d → c ≡ d
one_configuration input c d (t, is, spells) (s, is', spells') = one_spelling t c d spells (subst (λ u. SpellsText u d) (one_text input s t is' is) spells')

told : (t : Trial) → ◌≢◌ {A = Result Trial TrialFault} (Ok t) (Err trial_fault.NoMemory)
told t e = cc

same_trial : (t u : Trial) → ◌≡◌ {A = Result Trial TrialFault} (Ok t) (Ok u) → t ≡ u
same_trial t u e = cc

pub one_route : (input : List ℕ) (t u : Trial) → TrialAnswer input (Ok t) → TrialAnswer input (Ok u) → t ≡ u
one_route input t u is is' = same_trial t u (one_trial input (Ok t) (Ok u) (told t) (told u) is is')

one_outcome : (c : List ItemTree) (t : Trial) (x y : List ℕ) → IsOutcome c t x → IsOutcome c t y → x ≡ y
one_outcome c t x y (a, are, is) (b, are', is') =
    is ∙ ap outcome_text (walk_same c a b t.session t.route (λ n. are n ∙ sym (are' n))) ∙ sym is'

pub one_output : (input x y : List ℕ) → Evaluates input x → Evaluates input y → x ≡ y
one_output input x y e f =
    let same_text : f.configuration ≡ e.configuration = one_configuration input f.configuration e.configuration f.is_configuration e.is_configuration in
    let same : f.trial ≡ e.trial = one_route input f.trial e.trial f.is_trial.0 e.is_trial.0 in
    let other : IsOutcome e.configuration e.trial y = subst (λ t. IsOutcome e.configuration t y) same (subst (λ c. IsOutcome c f.trial y) same_text f.is_outcome) in
    one_outcome e.configuration e.trial x y e.is_outcome other
