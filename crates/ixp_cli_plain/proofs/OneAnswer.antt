-- An input has one answer: one output, or it is refused.
use Rattle.std.proofs.Common.{◌≡◌, ◌≢◌, inl, inr, ◌++◌, ℕ, List, Option, Some, None, Result, Ok, Err, sym, ap, ◌∙◌, subst}
use Rattle.ixp_num.specs.declared.cause.Cause.{Cause}
use Rattle.ixp_ixf.specs.Views.{ixf_text_of}
use Rattle.ixp_lang.specs.Texts.{fate_text}
use Rattle.ixp_lang.specs.Trees.{ItemTree}
use Rattle.ixp_policy.specs.Fates.{fate_of}
use Rattle.ixp_read.specs.declared.fault.ReadFault.{ReadFault}
use Rattle.ixp_read.specs.declared.fault.ReadFault.TheVariants as text_fault
use Rattle.ixp_read.specs.Answers.{SpellsText}
use Rattle.ixp_read.specs.Causes as text
use Rattle.ixp_read.proofs.AnswerLaws.{spelt_is_answered}
use Rattle.ixp_compile_laws.specs.Right.{Gen}
use Rattle.ixp_registry.specs.declared.registry.Registry.{Registry}
use Rattle.ixp_registry.specs.declared.router.Router.{Router}
use Rattle.ixp_registry.specs.Keys.{router_key}
use Rattle.ixp_registry.specs.Registries.{rows_of}
use Rattle.ixp_registry.specs.Sessions.{Session, session}
use Rattle.ixp_rows.specs.declared.fault.DumpFault.{DumpFault}
use Rattle.ixp_rows.specs.declared.fault.DumpFault.TheVariants as dump_fault
use Rattle.ixp_rows.specs.Causes as dump
use Rattle.ixp_rows.specs.Dumps.{RegistryAnswer, version_in}
use Rattle.ixp_rows.specs.Texts.{rows_count}
use Rattle.ixp_rows.proofs.OneRegistry.{one_registry}
use Rattle.ixp_num_tables.specs.Tables.{find}
use Rattle.ixp_eval_trial.specs.declared.fault.TrialFault.{TrialFault}
use Rattle.ixp_eval_trial.specs.declared.fault.TrialFault.TheVariants as trial_fault
use Rattle.ixp_eval_trial.specs.declared.session_route.SessionRoute.{SessionRoute}
use Rattle.ixp_eval_trial.specs.declared.trial.Trial.{Trial}
use Rattle.ixp_eval_trial.specs.Causes as trial
use Rattle.ixp_eval_trial.specs.Trials.{TrialAnswer}
use Rattle.ixp_eval_trial.proofs.OneSessionRoute.{one_session_route}
use Rattle.ixp_eval_trial.proofs.OneTrial.{one_text, one_trial}
use Rattle.ixp_rpsl_text.specs.declared.fault.ExpandCause.{ExpandCause}
use Rattle.ixp_rpsl_text.proofs.OneListing as listing
use Rattle.ixp_cli_plain.specs.declared.command.Question.{Question}
use Rattle.ixp_cli_plain.specs.declared.command.Question.TheVariants.{Check, Eval, Fate, Generate, Export, Expand}
use Rattle.ixp_cli_plain.specs.Checks.{Checks, IsNoDump, ok_text}
use Rattle.ixp_cli_plain.specs.Evals.{Evaluates, IsConfiguration, IsNoEval, IsNoTrial, IsRefused, IsTaken}
use Rattle.ixp_cli_plain.specs.Exports.{Exports}
use Rattle.ixp_cli_plain.specs.Fates.{Fates, HasNoRouter, HasRoute, IsFate, IsNoFate, IsStray}
use Rattle.ixp_cli_plain.specs.Generates.{Generates, IsUnknown}
use Rattle.ixp_cli_plain.specs.Inputs.{dump_part}
use Rattle.ixp_cli_plain.specs.Runs.{Answers, AsksInVain, HasBadObjects}
use Rattle.ixp_cli_plain.proofs.OneOutput.{one_configuration, one_output, one_route}

-- a fault with a cause isn't running out of memory

dump_told : (f : DumpFault) (c : Cause) → dump.cause_of f ≡ Some c → ◌≢◌ {A = Result Registry DumpFault} (Err f) (Err dump_fault.NoMemory)
dump_told f c e same = let gone : f ≡ dump_fault.NoMemory = cc in let none : ◌≡◌ {A = Option Cause} (Some c) None = sym e ∙ ap dump.cause_of gone in cc

route_told : (f : TrialFault) (c : Cause) → trial.cause_of f ≡ Some c → ◌≢◌ {A = Result SessionRoute TrialFault} (Err f) (Err trial_fault.NoMemory)
route_told f c e same = let gone : f ≡ trial_fault.NoMemory = cc in let none : ◌≡◌ {A = Option Cause} (Some c) None = sym e ∙ ap trial.cause_of gone in cc

trial_told : (f : TrialFault) (c : Cause) → trial.cause_of f ≡ Some c → ◌≢◌ {A = Result Trial TrialFault} (Err f) (Err trial_fault.NoMemory)
trial_told f c e same = let gone : f ≡ trial_fault.NoMemory = cc in let none : ◌≡◌ {A = Option Cause} (Some c) None = sym e ∙ ap trial.cause_of gone in cc

text_told : (f : ReadFault) (c : Cause) → text.cause_of f ≡ Some c → f ≡ text_fault.NoMemory → ⊥
text_told f c e gone = let none : ◌≡◌ {A = Option Cause} (Some c) None = sym e ∙ ap text.cause_of gone in cc

-- dumps

registry_told : (r : Registry) → ◌≢◌ {A = Result Registry DumpFault} (Ok r) (Err dump_fault.NoMemory)
registry_told r e = cc

pub same_registry : (t : List ℕ) (r s : Registry) → RegistryAnswer (version_in t) t (Ok r) → RegistryAnswer (version_in t) t (Ok s) → r ≡ s
same_registry t r s x y =
    let e : ◌≡◌ {A = Result Registry DumpFault} (Ok r) (Ok s) = one_registry (version_in t) t (Ok r) (Ok s) (registry_told r) (registry_told s) x y in
    cc

pub is_dump : (t : List ℕ) (r : Registry) (c : Cause) → RegistryAnswer (version_in t) t (Ok r) → ¬ (IsNoDump t c)
is_dump t r c x (f, e, y) =
    let both : ◌≡◌ {A = Result Registry DumpFault} (Ok r) (Err f) = one_registry (version_in t) t (Ok r) (Err f) (registry_told r) (dump_told f c e) x y in
    cc

same_router : (r : Registry) (handle : List ℕ) (q p : Router) → find router_key handle r.routers ≡ Some q → find router_key handle r.routers ≡ Some p → q ≡ p
same_router r handle q p here there = let one : ◌≡◌ {A = Option Router} (Some q) (Some p) = sym here ∙ there in cc

is_router : (r : Registry) (handle : List ℕ) (q : Router) → find router_key handle r.routers ≡ Some q → find router_key handle r.routers ≡ None → ⊥
is_router r handle q here away = let both : ◌≡◌ {A = Option Router} (Some q) None = sym here ∙ away in cc

one_check : (t x y : List ℕ) → Checks t x → Checks t y → x ≡ y
one_check t x y a b = a.is_output ∙ ap (λ r. ok_text (rows_count (rows_of r))) (same_registry t a.registry b.registry a.is_dump b.is_dump) ∙ sym b.is_output

one_export : (n : ℕ) (t x y : List ℕ) → Exports n t x → Exports n t y → x ≡ y
one_export n t x y a b = a.is_output ∙ ap (λ r. ixf_text_of r n) (same_registry t a.registry b.registry a.is_dump b.is_dump) ∙ sym b.is_output

-- texts of routers

one_generated : (handle t x y : List ℕ) → Generates handle t x → Generates handle t y → x ≡ y
one_generated handle t x y a b =
    let r = same_registry t a.registry b.registry a.is_dump b.is_dump in
    let there : find router_key handle a.registry.routers ≡ Some b.router = ap (λ s. find router_key handle s.routers) r ∙ b.is_there in
    let q = same_router a.registry handle a.router b.router a.is_there there in
    a.is_text ∙ ap (λ p. Gen a.registry p) q ∙ ap (λ s. Gen s b.router) r ∙ sym b.is_text

is_generated : (handle t x : List ℕ) → Generates handle t x → ¬ (IsUnknown handle t)
is_generated handle t x a away =
    let r = same_registry t a.registry away.registry a.is_dump away.is_dump in
    is_router a.registry handle a.router a.is_there (ap (λ s. find router_key handle s.routers) r ∙ away.is_away)

-- fates

same_route : (t : List ℕ) (a b : SessionRoute) → HasRoute t (Ok a) → HasRoute t (Ok b) → a ≡ b
same_route t a b x y =
    let e : ◌≡◌ {A = Result SessionRoute TrialFault} (Ok a) (Ok b) = one_session_route _ _ (Ok a) (Ok b) (λ e. cc) (λ e. cc) x y in
    cc

is_route : (t : List ℕ) (a : SessionRoute) (f : TrialFault) (c : Cause) → trial.cause_of f ≡ Some c → HasRoute t (Ok a) → ¬ (HasRoute t (Err f))
is_route t a f c e x y =
    let both : ◌≡◌ {A = Result SessionRoute TrialFault} (Ok a) (Err f) = one_session_route _ _ (Ok a) (Err f) (λ e. cc) (route_told f c e) x y in
    cc

same_sender : (r : Registry) (q p : Router) (n : ℕ) (s u : Session) → q ≡ p → session r q n ≡ Some s → session r p n ≡ Some u → s ≡ u
same_sender r q p n s u same here there =
    let one : ◌≡◌ {A = Option Session} (Some s) (Some u) = sym here ∙ ap (λ x. session r x n) same ∙ there in
    cc

one_fate : (r : Registry) (route : SessionRoute) (x y : List ℕ) → IsFate r route x → IsFate r route y → x ≡ y
one_fate r route x y a b =
    let q = same_router r route.router a.router b.router a.is_there b.is_there in
    let s = same_sender r a.router b.router route.interface a.is_sent.sender b.is_sent.sender q a.is_sent.is_sender b.is_sent.is_sender in
    a.is_text ∙ ap (λ u. Gen r a.router ++ fate_text (fate_of r a.router route.route u) (Some a.router.asn)) s
    ∙ ap (λ p. Gen r p ++ fate_text (fate_of r p route.route b.is_sent.sender) (Some p.asn)) q ∙ sym b.is_text

fate_as : (input : List ℕ) (a : List ℕ) (r : Registry) (route : SessionRoute) (is : Fates input a) → is.registry ≡ r → is.route ≡ route → IsFate r route a
fate_as input a r route is e f = subst (λ s. IsFate s route a) e (subst (λ u. IsFate is.registry u a) f is.is_fate)

one_told : (input x y : List ℕ) → Fates input x → Fates input y → x ≡ y
one_told input x y a b =
    let r = same_registry (dump_part input) b.registry a.registry b.has_registry a.has_registry in
    let u = same_route input b.route a.route b.has_route a.has_route in
    one_fate a.registry a.route x y a.is_fate (fate_as input y a.registry a.route b r u)

is_session : (o : Option Session) (s : Session) → o ≡ Some s → o ≡ None → ⊥
is_session o s e f = let both : ◌≡◌ {A = Option Session} (Some s) None = sym e ∙ f in cc

is_fated : (input x : List ℕ) (c : Cause) → Fates input x → ¬ (IsNoFate input c)
is_fated input x c a (inl none) = is_dump (dump_part input) a.registry c a.has_registry none
is_fated input x c a (inr (inl (r, has, (fault, told, is)))) = is_route input a.route fault c told a.has_route is
is_fated input x c a (inr (inr (r, has, route, said, (q, there, why)))) = astray why where
  is : IsFate r route x
  is = fate_as input x r route a (same_registry (dump_part input) a.registry r a.has_registry has) (same_route input a.route route a.has_route said)

  same : is.router ≡ q
  same = same_router r route.router is.router q is.is_there there

  astray : IsStray r q route c → ⊥
  astray (inl (none, e)) = is_session (session r q route.interface) is.is_sent.sender (ap (λ p. session r p route.interface) (sym same) ∙ is.is_sent.is_sender) none
  astray (inr (sender, its, other, e)) = other (is.is_sent.is_of_family ∙ ap (λ p. p.family) same)

has_router : (input x handle : List ℕ) → Fates input x → ¬ (HasNoRouter input handle)
has_router input x handle a (r, has, route, said, e, away) =
    let is = fate_as input x r route a (same_registry (dump_part input) a.registry r a.has_registry has) (same_route input a.route route a.has_route said) in
    is_router r route.router is.router is.is_there away

-- trials

is_taken : (items : List ItemTree) (t : Trial) (f : TrialFault) → IsTaken items t → ¬ (IsRefused items t f)
is_taken items t f taken (inl (other, e)) = taken.0 other
is_taken items t f taken (inr (same, line, more, e)) = let both : ◌≡◌ {A = Option ℕ} (Some line) None = sym more ∙ taken.1 in cc

is_trial : (items : List ItemTree) (input : List ℕ) (t : Trial) (c : Cause) → TrialAnswer input (Ok t) → IsTaken items t → ¬ (IsNoTrial items input c)
is_trial items input t c is taken (f, told, inl unread) =
    let both : ◌≡◌ {A = Result Trial TrialFault} (Ok t) (Err f) = one_trial input (Ok t) (Err f) (λ e. cc) (trial_told f c told) is unread in
    cc
is_trial items input t c is taken (f, told, inr (u, other, refused)) =
    is_taken items t f taken (subst (λ v. IsRefused items v f) (one_route input u t other is) refused)

is_evaluated : (input x : List ℕ) (c : Cause) → Evaluates input x → ¬ (IsNoEval input c)
is_evaluated input x c a (inl (f, told, t, filter, is)) = text_told f c told (unread a.is_configuration) where
  unread : IsConfiguration input a.configuration → f ≡ text_fault.NoMemory
  unread (u, other, spells) = spelt_is_answered t a.configuration f (subst (λ w. SpellsText w a.configuration) (one_text input u t other filter) spells) is
is_evaluated input x c a (inr (items, is, none)) =
    is_trial a.configuration input a.trial c a.is_trial.0 a.is_trial.1
    (subst (λ d. IsNoTrial d input c) (one_configuration input items a.configuration is a.is_configuration) none)

-- of any command

pub one_written : (question : Question) (input x y : List ℕ) → Answers question input (Ok x) → Answers question input (Ok y) → x ≡ y
one_written Check input x y a b = one_check input x y a b
one_written Eval input x y a b = one_output input x y a b
one_written Fate input x y a b = one_told input x y a b
one_written (Generate handle) input x y a b = one_generated handle input x y a b
one_written (Export second) input x y a b = one_export second input x y a b
one_written (Expand set family which) input x y a b = listing.one_text input set family which x y a b

pub not_refused : (question : Question) (input x : List ℕ) (c : Cause) → Answers question input (Ok x) → ¬ (Answers question input (Err c))
not_refused Check input x c a none = is_dump input a.registry c a.is_dump none
not_refused Eval input x c a none = is_evaluated input x c a none
not_refused Fate input x c a none = is_fated input x c a none
not_refused (Generate handle) input x c a none = is_dump input a.registry c a.is_dump none
not_refused (Export second) input x c a none = is_dump input a.registry c a.is_dump none
not_refused (Expand set family which) input x c a none = none

pub not_in_vain : (question : Question) (input x handle : List ℕ) → Answers question input (Ok x) → ¬ (AsksInVain question input handle)
not_in_vain Check input x handle a vain = vain
not_in_vain Eval input x handle a vain = vain
not_in_vain Fate input x handle a vain = has_router input x handle a vain
not_in_vain (Generate router) input x handle a vain = is_generated router input x a vain.1
not_in_vain (Export second) input x handle a vain = vain
not_in_vain (Expand set family which) input x handle a vain = vain

pub not_bad : (question : Question) (input x : List ℕ) (c : ExpandCause) → Answers question input (Ok x) → ¬ (HasBadObjects question input c)
not_bad Check input x c a bad = bad
not_bad Eval input x c a bad = bad
not_bad Fate input x c a bad = bad
not_bad (Generate handle) input x c a bad = bad
not_bad (Export second) input x c a bad = bad
not_bad (Expand set family which) input x c a bad = listing.text_or_cause input set family which x c a bad
