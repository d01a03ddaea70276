-- No lines behind a dump have two answers.
use Rattle.std.proofs.Common.{◌≡◌, ◌≢◌, ◌+◌, inl, inr, ℕ, List, [], ◌∷◌, Result, Ok, Err, refl, sym, ap, ◌∙◌, subst}
use Rattle.ixp_num.specs.Forms.{IsDecimal}
use Rattle.ixp_lang.specs.declared.route.Route.{Route}
use Rattle.ixp_lang.specs.declared.reading.fault.RouteFault.{RouteFault}
use Rattle.ixp_lang.specs.RouteAnswers.{RouteAnswer}
use Rattle.ixp_lang.proofs.RouteAnswerLaws.{one_route}
use Rattle.ixp_eval_trial.specs.declared.fault.RouteCode.{RouteCode}
use Rattle.ixp_eval_trial.specs.declared.fault.RouteCode.TheVariants as code
use Rattle.ixp_eval_trial.specs.declared.fault.TrialFault.{TrialFault}
use Rattle.ixp_eval_trial.specs.declared.fault.TrialFault.TheVariants as fault
use Rattle.ixp_eval_trial.specs.declared.session_route.SessionRoute.{SessionRoute}
use Rattle.ixp_eval_trial.specs.Cutting.{Leads}
use Rattle.ixp_eval_trial.specs.Lines.{lines}
use Rattle.ixp_eval_trial.specs.SessionRoutes.{IsSessionLine, SaysRoute, SaysNoRoute, SessionRouteAnswer}
use Rattle.ixp_eval_trial.specs.Trials.{IsNoRouteText}
use Rattle.ixp_eval_trial.proofs.OneTrial.{decimal_one, one_code, no_code}
use Rattle.ixp_eval_trial.proofs.Parts.{one_parts, parts_of_line}

-- a second line stands there
pub one_line_more : (behind line after second rest router : List ℕ) (interface : ℕ) (route : Route) (n first : ℕ) → Leads behind line after → Leads after second rest → SaysRoute line router interface route → n ≡ first + 1
    → SessionRouteAnswer (lines behind) first (Err (fault.BadRoute n code.Text))
one_line_more behind line after second rest router interface route n first leads next says e =
    inr (inr (line, second, router, interface, route, lines rest, leads.lines ∙ ap (λ ls. line ∷ ls) next.lines, says, e, refl))

record SameLine (handle handle' text text' : List ℕ) (n n' : ℕ) : Type 0 where
  pub handles : handle ≡ handle'
  pub numbers : n ≡ n'
  pub texts : text ≡ text'

one_line : (line handle handle' text text' : List ℕ) (n n' : ℕ) → IsSessionLine line handle n text → IsSessionLine line handle' n' text' → SameLine handle handle' text text' n n'
one_line line handle handle' text text' n n' is is' =
    let same = one_parts line handle is.number text handle' is'.number text' (parts_of_line line handle text n is) (parts_of_line line handle' text' n' is') in
    record {
      handles = same.0;
      numbers = decimal_one is.number n n' is.is_number (subst (λ t. IsDecimal t n') (sym same.1) is'.is_number);
      texts = same.2;
    }

record SameSaid (router router' : List ℕ) (interface interface' : ℕ) (route route' : Route) : Type 0 where
  pub routers : router ≡ router'
  pub interfaces : interface ≡ interface'
  pub routes : route ≡ route'

one_said : (line router router' : List ℕ) (interface interface' : ℕ) (route route' : Route) → SaysRoute line router interface route → SaysRoute line router' interface' route'
    → SameSaid router router' interface interface' route route'
one_said line router router' interface interface' route route' (text, is, ok) (text', is', ok') =
    let same = one_line line router router' text text' interface interface' is is' in
    let one : ◌≡◌ {A = Result Route RouteFault} (Ok route) (Ok route') = one_route text (Ok route) (Ok route') (λ e. cc) (λ e. cc) ok (subst (λ t. RouteAnswer t (Ok route')) (sym same.texts) ok') in
    record { routers = same.handles; interfaces = same.numbers; routes = cc }

not_both : (line router : List ℕ) (interface : ℕ) (route : Route) (c : RouteCode) → SaysRoute line router interface route → ¬ (SaysNoRoute line c)
not_both line router interface route c (text, is, ok) (inl (none, e)) = none router interface text is
not_both line router interface route c (text, is, ok) (inr (handle, n, text', is', why)) =
    let same = one_line line router handle text text' interface n is is' in
    no_code text route c ok (subst (λ t. IsNoRouteText t c) (sym same.texts) why)

one_why : (line : List ℕ) (c c' : RouteCode) → SaysNoRoute line c → SaysNoRoute line c' → c ≡ c'
one_why line c c' (inl (none, e)) (inl (none', e')) = e ∙ sym e'
one_why line c c' (inl (none, e)) (inr (handle, n, text, is, why)) = absurd (none handle n text is)
one_why line c c' (inr (handle, n, text, is, why)) (inl (none, e)) = absurd (none handle n text is)
one_why line c c' (inr (handle, n, text, is, why)) (inr (handle', n', text', is', why')) =
    one_code text c c' why (subst (λ t. IsNoRouteText t c') (sym (one_line line handle handle' text text' n n' is is').texts) why')

route_same : (s t : SessionRoute) → s.router ≡ t.router → s.interface ≡ t.interface → s.route ≡ t.route → s.line ≡ t.line → s ≡ t
route_same s t router interface route line = λ i. record { router = router i; interface = interface i; route = route i; line = line i }

ok_same : (ls : List (List ℕ)) (first : ℕ) (s t : SessionRoute) → SessionRouteAnswer ls first (Ok s) → SessionRouteAnswer ls first (Ok t) → s ≡ t
ok_same ls first s t (line, e, says, at) (line', e', says', at') =
    let whole : line ∷ [] ≡ line' ∷ [] = sym e ∙ e' in
    let head : line ≡ line' = cc in
    let same = one_said line s.router t.router s.interface t.interface s.route t.route says (subst (λ l. SaysRoute l t.router t.interface t.route) (sym head) says') in
    route_same s t same.routers same.interfaces same.routes (at ∙ sym at')

ok_apart : (ls : List (List ℕ)) (first n : ℕ) (c : RouteCode) (s : SessionRoute) → SessionRouteAnswer ls first (Ok s) → ¬ (SessionRouteAnswer ls first (Err (fault.BadRoute n c)))
ok_apart ls first n c s (line, e, says, at) (inl (none, at', is)) = let bad : line ∷ [] ≡ [] = sym e ∙ none in cc
ok_apart ls first n c s (line, e, says, at) (inr (inl (line', after, e', why, at'))) =
    let whole : line ∷ [] ≡ line' ∷ after = sym e ∙ e' in
    let head : line ≡ line' = cc in
    not_both line s.router s.interface s.route c says (subst (λ l. SaysNoRoute l c) (sym head) why)
ok_apart ls first n c s (line, e, says, at) (inr (inr (line', second, router, interface, route, after, e', says', at', is))) =
    let bad : line ∷ [] ≡ line' ∷ second ∷ after = sym e ∙ e' in cc

record SamePlace (n n' : ℕ) (c c' : RouteCode) : Type 0 where
  pub lines : n ≡ n'
  pub codes : c ≡ c'

err_same : (ls : List (List ℕ)) (first n n' : ℕ) (c c' : RouteCode) → SessionRouteAnswer ls first (Err (fault.BadRoute n c)) → SessionRouteAnswer ls first (Err (fault.BadRoute n' c')) → SamePlace n n' c c'
err_same ls first n n' c c' (inl (none, at, is)) (inl (none', at', is')) = record { lines = at ∙ sym at'; codes = is ∙ sym is' }
err_same ls first n n' c c' (inl (none, at, is)) (inr (inl (line, after, e, why, at'))) = let bad : line ∷ after ≡ [] = sym e ∙ none in absurd cc
err_same ls first n n' c c' (inl (none, at, is)) (inr (inr (line, second, router, interface, route, after, e, says, at', is'))) =
    let bad : line ∷ second ∷ after ≡ [] = sym e ∙ none in absurd cc
err_same ls first n n' c c' (inr (inl (line, after, e, why, at'))) (inl (none, at, is)) = let bad : line ∷ after ≡ [] = sym e ∙ none in absurd cc
err_same ls first n n' c c' (inr (inl (line, after, e, why, at))) (inr (inl (line', after', e', why', at'))) =
    let whole : line ∷ after ≡ line' ∷ after' = sym e ∙ e' in
    let head : line ≡ line' = cc in
    record { lines = at ∙ sym at'; codes = one_why line c c' why (subst (λ l. SaysNoRoute l c') (sym head) why') }
err_same ls first n n' c c' (inr (inl (line, after, e, why, at))) (inr (inr (line', second, router, interface, route, after', e', says, at', is))) =
    let whole : line ∷ after ≡ line' ∷ second ∷ after' = sym e ∙ e' in
    let head : line ≡ line' = cc in
    absurd (not_both line' router interface route c says (subst (λ l. SaysNoRoute l c) head why))
err_same ls first n n' c c' (inr (inr (line, second, router, interface, route, after, e, says, at', is'))) (inl (none, at, is)) =
    let bad : line ∷ second ∷ after ≡ [] = sym e ∙ none in absurd cc
err_same ls first n n' c c' (inr (inr (line', second, router, interface, route, after', e', says, at', is))) (inr (inl (line, after, e, why, at))) =
    let whole : line ∷ after ≡ line' ∷ second ∷ after' = sym e ∙ e' in
    let head : line ≡ line' = cc in
    absurd (not_both line' router interface route c' says (subst (λ l. SaysNoRoute l c') head why))
err_same ls first n n' c c' (inr (inr (line, second, router, interface, route, after, e, says, at, is))) (inr (inr (line', second', router', interface', route', after', e', says', at', is'))) =
    record { lines = at ∙ sym at'; codes = is ∙ sym is' }

pub one_session_route : (ls : List (List ℕ)) (first : ℕ) (x y : Result SessionRoute TrialFault) → x ≢ Err fault.NoMemory → y ≢ Err fault.NoMemory
    → SessionRouteAnswer ls first x → SessionRouteAnswer ls first y → x ≡ y
one_session_route ls first (Ok s) (Ok t) some some' x y = ap Ok (ok_same ls first s t x y)
one_session_route ls first (Ok s) (Err (fault.BadLine n)) some some' x y = absurd y
one_session_route ls first (Ok s) (Err (fault.BadRoute n c)) some some' x y = absurd (ok_apart ls first n c s x y)
one_session_route ls first (Ok s) (Err fault.NoMemory) some some' x y = absurd (some' refl)
one_session_route ls first (Err (fault.BadLine n)) y some some' is is' = absurd is
one_session_route ls first (Err (fault.BadRoute n c)) (Ok s) some some' x y = absurd (ok_apart ls first n c s y x)
one_session_route ls first (Err (fault.BadRoute n c)) (Err (fault.BadLine n')) some some' x y = absurd y
one_session_route ls first (Err (fault.BadRoute n c)) (Err (fault.BadRoute n' c')) some some' x y =
    let same = err_same ls first n n' c c' x y in
    ap (λ m. Err (fault.BadRoute m c)) same.lines ∙ ap (λ d. Err (fault.BadRoute n' d)) same.codes
one_session_route ls first (Err (fault.BadRoute n c)) (Err fault.NoMemory) some some' x y = absurd (some' refl)
one_session_route ls first (Err fault.NoMemory) y some some' is is' = absurd (some refl)
