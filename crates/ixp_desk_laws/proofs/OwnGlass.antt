-- What a looking glass shows a member, at places where it sees the same.
use Rattle.std.proofs.Common.{◌≡◌, ◌⊎◌, inl, inr, ℕ, true, List, [], ◌∷◌, ◌++◌, Option, Some, None, Result, Ok, Err, refl, sym, ap, ◌∙◌, subst, if◌then◌else◌}
use Rattle.ixp_lang.specs.declared.route.Route.{Route}
use Rattle.ixp_registry.specs.declared.refusal.Refusal.TheVariants.{Family}
use Rattle.ixp_registry.specs.declared.router.Router.{Router}
use Rattle.ixp_machine_steps.specs.declared.state.State.{State}
use Rattle.ixp_machine_steps.specs.Views.{view}
use Rattle.ixp_explain_member.specs.Rows.{own_report_by_rows}
use Rattle.ixp_glass_holds.specs.Calls.{Log as HoldLog}
use Rattle.ixp_api_replies.specs.declared.outcome.Outcome.{Outcome}
use Rattle.ixp_api_replies.specs.declared.outcome.Outcome.TheVariants as outcome
use Rattle.ixp_desk_history.specs.declared.turn.First.{First}
use Rattle.ixp_desk_history.specs.declared.turn.Text.{Text}
use Rattle.ixp_desk_history.specs.declared.turn.Turn.{Turn}
use Rattle.ixp_desk_history.specs.Answers.{IsOwnText, is_owned}
use Rattle.ixp_desk_history.specs.Legal.{Legal}
use Rattle.ixp_desk_history.specs.Turns.{registry_of, state_of}
use Rattle.ixp_desk_history.proofs.Versions.{state_valid}
use Rattle.ixp_desk_lock.specs.declared.fault.AskFault.{AskFault}
use Rattle.ixp_desk_lock.specs.Calls.{OwnTexts}
use Rattle.ixp_desk_lock.specs.Sights.{Sight}
use Rattle.ixp_desk_explain.specs.Explanations.{own_fault}
use Rattle.ixp_desk_explain.specs.Glass.{ShowTurn, Shows, ShowsBy, Sights, are_of, held_say, report_text, shown_text}
use Rattle.ixp_desk_laws.specs.Calls.{SeesAlike}
use Rattle.ixp_desk_laws.specs.Desks.{IsOf}
use Rattle.ixp_desk_laws.specs.Links.{IsReply}
use Rattle.ixp_desk_laws.proofs.OwnAnswers.{texts_alike}
use Rattle.ixp_desk_laws.proofs.OwnReplies.{fault_told, source_of}
use Rattle.ixp_desk_laws.proofs.OwnReports.{reports_alike}
use Rattle.ixp_desk_laws.proofs.OwnTexts.{senders_alike}

-- the text, where the routes are of the router's family
abbrev by_router : List Route → Router → List ℕ → Outcome
by_router routes q text = if are_of q.family routes then outcome.Text text else outcome.Refused (Family q.family)

module _ (m n : ℕ) (handle : List ℕ) (f g : First) (before others : List Turn) (v w : Text) (legal : Legal f before) (legal' : Legal g others)
    (seen : view (state_of f before) m ≡ view (state_of g others) m) (mine : is_owned (registry_of f before) m n ≡ true)
    (x : IsOwnText (state_of f before) handle n v) (y : IsOwnText (state_of g others) handle n w) where
  texts_shown : (routes : List Route) → shown_text (registry_of f before) x.router x.sender routes ≡ shown_text (registry_of g others) y.router y.sender routes
  texts_shown [] = refl
  texts_shown (q ∷ qs) =
      ap (λ report. report_text q report ++ shown_text (registry_of f before) x.router x.sender qs) (reports_alike f g before others m n handle q [] v w legal legal' seen mine x y)
      ∙ ap (λ text. report_text q (own_report_by_rows (registry_of g others) y.router y.sender q []) ++ text) (texts_shown qs)

  held_alike : (held : Option (List Route)) → held_say held x ≡ held_say held y
  held_alike None = refl
  held_alike (Some routes) =
      ap (λ q. by_router routes q (shown_text (registry_of f before) x.router x.sender routes))
      (senders_alike (state_of f before) (state_of g others) m (state_valid f before legal) (state_valid g others legal') seen handle n v w mine x y).0
      ∙ ap (by_router routes y.router) (texts_shown routes)

-- what isn't out of memory is said
shown_is : {st : State} {handle : List ℕ} {n : ℕ} {text : Text} (held : Option (List Route)) (log : HoldLog) (x : IsOwnText st handle n text) (o : Outcome) → IsReply o → Shows held log x o → o ≡ held_say held x
shown_is held log x o reply (inl e) = e.1
shown_is held log x o reply (inr is) = absurd (subst IsReply is reply)

shown_by : (m : ℕ) (a b router : List ℕ) (n : ℕ) (held : Option (List Route)) (r q : Result Text AskFault) (x y : Outcome) (s t u w : Sight) (h k : HoldLog) (f g : First) (before others : List Turn)
    → OwnTexts a router n r s t → ShowsBy held router n r x t.2 h → OwnTexts b router n q u w → ShowsBy held router n q y w.2 k
    → IsReply x → IsReply y → IsOf m a f before s t → IsOf m b g others u w → SeesAlike m (state_of f before) (state_of g others) → x ≡ y
shown_by m a b router n held (Ok v) (Ok z) x y s t u w h k f g before others one (src, says) two (src', says') reply reply' here there alike =
    let source = source_of m a router n v s t f before src one here in
    let source' = source_of m b router n z u w g others src' two there in
    let seen : view (state_of src.first src.before) m ≡ view (state_of src'.first src'.before) m
    = ap (λ (s : State). view s m) source.state ∙ (alike.own ∙ sym (ap (λ (s : State). view s m) source'.state)) in
    shown_is held h src.own x reply says
    ∙ (held_alike m n router src.first src'.first src.before src'.before v z source.legal source'.legal seen source.mine src.own src'.own held
    ∙ sym (shown_is held k src'.own y reply' says'))
shown_by m a b router n held (Err e) (Err c) x y s t u w h k f g before others one is two it reply reply' here there alike =
    let whole : ◌≡◌ {A = Result Text AskFault} (Err e) (Err c)
    = texts_alike m a b router n (Err e) (Err c) s t u w f g before others one two (fault_told e (subst IsReply is reply)) (fault_told c (subst IsReply it reply')) here there alike in
    let same : e ≡ c = cc (whole) in
    is ∙ (ap own_fault same ∙ sym it)
shown_by m a b router n held (Ok v) (Err c) x y s t u w h k f g before others one says two it reply reply' here there alike =
    let bad : ◌≡◌ {A = Result Text AskFault} (Ok v) (Err c)
    = texts_alike m a b router n (Ok v) (Err c) s t u w f g before others one two tt (fault_told c (subst IsReply it reply')) here there alike in
    absurd (let wrong : ⊥ = cc in wrong)
shown_by m a b router n held (Err e) (Ok z) x y s t u w h k f g before others one is two says reply reply' here there alike =
    let bad : ◌≡◌ {A = Result Text AskFault} (Err e) (Ok z)
    = texts_alike m a b router n (Err e) (Ok z) s t u w f g before others one two (fault_told e (subst IsReply is reply)) tt here there alike in
    absurd (let wrong : ⊥ = cc in wrong)

pub routes_told : (m : ℕ) (a b router : List ℕ) (n : ℕ) (held : Option (List Route)) (x y : Outcome) (s t u w : Sights) (f g : First) (before others : List Turn) → ShowTurn held a router n x s t → ShowTurn held b router n y u w
    → IsReply x → IsReply y → IsOf m a f before s.0 t.0 → IsOf m b g others u.0 w.0 → SeesAlike m (state_of f before) (state_of g others) → x ≡ y
routes_told m a b router n held x y s t u w f g before others one two reply reply' here there alike =
    shown_by m a b router n held one.0 two.0 x y s.0 t.0 u.0 w.0 t.1 w.1 f g before others one.1 one.2 two.1 two.2 reply reply' here there alike
