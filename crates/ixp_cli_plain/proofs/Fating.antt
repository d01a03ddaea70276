-- The fate of a route, from its parts.
use Rattle.std.proofs.Common.{◌≡◌, inl, inr, ◌+◌, ℕ, List, ◌++◌, length, drop, Option, Some, None, Result, Ok, Err, refl, sym, ap, ◌∙◌, subst}
use Rattle.ixp_num_tables.specs.Tables.{find}
use Rattle.ixp_num.specs.declared.cause.Cause.{Cause}
use Rattle.ixp_compile.proofs.Rights.{right}
use Rattle.ixp_compile.specs.Fragment.{bgp_name}
use Rattle.ixp_compile.specs.Generated.{generated, roa_tables}
use Rattle.ixp_eval.specs.declared.fault.EvalFault.{EvalFault}
use Rattle.ixp_eval.specs.declared.fault.EvalFault.TheVariants as eval_fault
use Rattle.ixp_eval.specs.Answers.{Fails}
use Rattle.ixp_lang.specs.Faults.{Fault, pair_range, no_return, no_verdict, no_filter}
use Rattle.ixp_lang.specs.Texts.{fate_text}
use Rattle.ixp_lang.specs.Trees.{ItemTree}
use Rattle.ixp_num.specs.declared.roa.Roa.{Roa}
use Rattle.ixp_lang.specs.Walks.{walk}
use Rattle.ixp_policy.specs.Fates.{fate_of}
use Rattle.ixp_read.specs.Answers.{SpellsText}
use Rattle.ixp_compile_laws.specs.Right.{Gen}
use Rattle.ixp_compile_laws.proofs.ReadBack.{alone, whole_right, whole_spelt}
use Rattle.ixp_registry.specs.Keys.{router_key}
use Rattle.ixp_registry.specs.Valid.{Valid}
use Rattle.ixp_lang.specs.declared.fate.Fate.{Fate}
use Rattle.ixp_registry.specs.declared.registry.Registry.{Registry}
use Rattle.ixp_registry.specs.declared.router.Router.{Router}
use Rattle.ixp_registry.specs.Sessions.{Session, session}
use Rattle.ixp_eval_trial.specs.declared.fault.TrialFault.{TrialFault}
use Rattle.ixp_eval_trial.specs.declared.session_route.SessionRoute.{SessionRoute}
use Rattle.ixp_eval_trial.specs.Causes.{cause_of}
use Rattle.ixp_eval_trial.specs.Lines.{lines}
use Rattle.ixp_eval_trial.specs.SessionRoutes.{SessionRouteAnswer}
use Rattle.ixp_cli_plain.specs.declared.end.NoAnswer.{NoAnswer}
use Rattle.ixp_cli_plain.specs.declared.end.NoAnswer.TheVariants.{Bad, Unknown, BadObjects, NoMemory}
use Rattle.ixp_cli_plain.specs.Checks.{IsNoDump}
use Rattle.ixp_cli_plain.specs.Fates.{Fates, HasNoRouter, HasRegistry, HasRoute, IsAstray, IsFate, IsNoFate, IsNoRoute, IsOfSession, HasFate}
use Rattle.ixp_compile_laws.specs.Texts.{IsTextOf}
use Rattle.ixp_cli_plain.specs.Inputs.{dump_part}
use Rattle.ixp_cli_plain.specs.Runs.{Refused, RefusedOr, no_answer}

module _ (input dump behind : List ℕ) (front : dump ≡ dump_part input) (rest : behind ≡ drop (length (dump_part input)) input) where
  pub has_route : (result : Result SessionRoute TrialFault) → SessionRouteAnswer (lines behind) (length (lines dump) + 1) result → HasRoute input result
  has_route result is = subst (λ d. SessionRouteAnswer (lines (drop (length (dump_part input)) input)) (length (lines d) + 1) result) front (subst (λ t. SessionRouteAnswer (lines t) (length (lines dump) + 1) result) rest is)

told : (input : List ℕ) (fault : TrialFault) (o : Option Cause) → cause_of fault ≡ o → HasRoute input (Err fault) → Refused (IsNoRoute input) (no_answer o)
told input fault (Some cause) e is = (fault, e, is)
told input fault None e is = tt

pub no_route : (input : List ℕ) (fault : TrialFault) (why : NoAnswer) → HasRoute input (Err fault) → why ≡ no_answer (cause_of fault) → Refused (IsNoRoute input) why
no_route input fault why is e = subst (Refused (IsNoRoute input)) (sym e) (told input fault (cause_of fault) refl is)

-- why `fate` refuses an input

pub bad_dump : (input : List ℕ) (why : NoAnswer) → Refused (IsNoDump (dump_part input)) why → RefusedOr (IsNoFate input) (HasNoRouter input) why
bad_dump input (Bad cause) is = inl is
bad_dump input (Unknown router) is = absurd is
bad_dump input (BadObjects cause) is = absurd is
bad_dump input NoMemory is = tt

pub bad_route : (input : List ℕ) (r : Registry) (why : NoAnswer) → HasRegistry input r → Refused (IsNoRoute input) why → RefusedOr (IsNoFate input) (HasNoRouter input) why
bad_route input r (Bad cause) has is = inr (inl (r, has, is))
bad_route input r (Unknown router) has is = absurd is
bad_route input r (BadObjects cause) has is = absurd is
bad_route input r NoMemory has is = tt

pub not_fated :
    (input : List ℕ) (r : Registry) (route : SessionRoute) (why : NoAnswer) → HasRegistry input r → HasRoute input (Ok route)
    → RefusedOr (IsAstray r route) (λ handle. (handle ≡ route.router) × (find router_key route.router r.routers ≡ None)) why → RefusedOr (IsNoFate input) (HasNoRouter input) why
not_fated input r route (Bad cause) has said is = inr (inr (r, has, route, said, is))
not_fated input r route (Unknown router) has said is = (r, has, route, said, is.0, is.1)
not_fated input r route (BadObjects cause) has said is = absurd is
not_fated input r route NoMemory has said is = tt

pub fate_is : (input output : List ℕ) (r : Registry) (route : SessionRoute) → HasRegistry input r → HasRoute input (Ok route) → IsFate r route output → Fates input output
fate_is input output r route has said is = record { registry = r; has_registry = has; route = route; has_route = said; is_fate = is }

pub ruleset fating = (bad_dump, bad_route, not_fated, fate_is)

-- a router's text

pub text_is : (r : Registry) (handle text : List ℕ) (router : Router) → find router_key handle r.routers ≡ Some router → IsTextOf r handle (Some text) → text ≡ Gen r router
text_is r handle text router there (other, found, is) =
    let one : ◌≡◌ {A = Option Router} (Some other) (Some router) = sym found ∙ there in
    let same : other ≡ router = cc in
    is ∙ ap (Gen r) same

pub a_spelling : (r : Registry) (handle text : List ℕ) (router : Router) → Valid r → find router_key handle r.routers ≡ Some router → text ≡ Gen r router → (c : List ItemTree) × SpellsText text c
a_spelling r handle text router valid there is = (generated r router, subst (λ t. SpellsText t (generated r router)) (sym is) (whole_spelt r handle router valid there))

pub a_fate :
    (r : Registry) (route : SessionRoute) (router : Router) (text out : List ℕ) (fate : Fate) → Valid r → find router_key route.router r.routers ≡ Some router → IsOfSession r router route
    → text ≡ Gen r router → HasFate r router route fate → out ≡ text ++ fate_text fate (Some router.asn) → IsFate r route out
a_fate r route router text out fate valid there sent is has e = record {
  router = router;
  is_there = there;
  is_sent = sent;
  is_text = e ∙ ap (λ t. t ++ fate_text fate (Some router.asn)) is ∙ ap (λ f. Gen r router ++ fate_text f (Some router.asn)) (has sent.sender sent.is_sender);
  is_right = whole_right r route.router router valid there;
}

-- what a walk gives that can't fail

apart : (fate : Fate) (f : Fault) → ◌≡◌ {A = Result Fate Fault} (Err f) (Ok fate) → ⊥
apart fate f e = cc

pub never_fails : (f : EvalFault) (fate : Fate) (outcome : Result Fate Fault) → outcome ≡ Ok fate → Fails Err outcome f → f ≡ eval_fault.NoMemory
never_fails eval_fault.NoMemory fate outcome e is = refl
never_fails (eval_fault.PairRange n) fate outcome e is = absurd (apart fate (pair_range n) (is ∙ e))
never_fails (eval_fault.NoReturn n) fate outcome e is = absurd (apart fate (no_return n) (is ∙ e))
never_fails (eval_fault.NoVerdict n) fate outcome e is = absurd (apart fate (no_verdict n) (is ∙ e))
never_fails (eval_fault.NoFilter n) fate outcome e is = absurd (apart fate (no_filter n) (is ∙ e))

-- the walk of what a router's text spells
pub walked :
    (r : Registry) (handle text : List ℕ) (router : Router) (route : SessionRoute) (s : Session) (items : List ItemTree) → Valid r → find router_key handle r.routers ≡ Some router
    → text ≡ Gen r router → SpellsText text items → session r router route.interface ≡ Some s → route.route.net.family ≡ router.family
    → walk items (roa_tables r) (bgp_name route.interface) route.route ≡ Ok (fate_of r router route.route s)
walked r handle text router route s items valid there is spelt sent family =
    let same = alone r handle router valid there items (subst (λ t. SpellsText t items) is spelt) in
    ap (λ c. walk c (roa_tables r) (bgp_name route.interface) route.route) same ∙ right r valid handle router there route.interface s sent route.route family

pub walked_by :
    (r : Registry) (handle text : List ℕ) (router : Router) (route : SessionRoute) (items : List ItemTree) (tables : List (List ℕ × List Roa)) (name : List ℕ) → Valid r
    → find router_key handle r.routers ≡ Some router → text ≡ Gen r router → SpellsText text items → (sent : IsOfSession r router route) → tables ≡ roa_tables r → name ≡ bgp_name route.interface
    → walk items tables name route.route ≡ Ok (fate_of r router route.route sent.sender)
walked_by r handle text router route items tables name valid there is spelt sent same named =
    ap (λ t. walk items t name route.route) same ∙ ap (λ n. walk items (roa_tables r) n route.route) named
    ∙ walked r handle text router route sent.sender items valid there is spelt sent.is_sender sent.is_of_family

pub told_fate :
    (r : Registry) (handle text : List ℕ) (router : Router) (route : SessionRoute) (items : List ItemTree) (tables : List (List ℕ × List Roa)) (name : List ℕ) (fate : Fate) → Valid r
    → find router_key handle r.routers ≡ Some router → text ≡ Gen r router → SpellsText text items → IsOfSession r router route → tables ≡ roa_tables r → name ≡ bgp_name route.interface
    → Ok fate ≡ walk items tables name route.route → HasFate r router route fate
told_fate r handle text router route items tables name fate valid there is spelt sent same named told sender its =
    let by = walked_by r handle text router route items tables name valid there is spelt (record { sender = sender; is_sender = its; is_of_family = sent.is_of_family }) same named in
    let one : ◌≡◌ {A = Result Fate Fault} (Ok fate) (Ok (fate_of r router route.route sender)) = told ∙ by in
    cc
