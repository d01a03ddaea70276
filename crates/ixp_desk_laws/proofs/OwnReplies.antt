-- What the calls of links answer a member, at places where it sees the same.
use Rattle.std.proofs.Common.{◌≡◌, ℕ, ◌≤◌, ◌⊎◌, inl, inr, true, List, ◌∷◌, ◌++◌, Result, Ok, Err, sym, ap, ◌∙◌, subst, arith, if◌then◌else◌}
use mathlib.Core.List.{IsPrefix}
use Rattle.ixp_num.specs.declared.asn.Asn.{Asn}
use Rattle.ixp_num.specs.Families.{same_family}
use Rattle.ixp_lang.specs.declared.route.Route.{Route}
use Rattle.ixp_registry.specs.declared.members.Owner.{Owner}
use Rattle.ixp_registry.specs.declared.refusal.Refusal.TheVariants.{Family}
use Rattle.ixp_registry.specs.declared.router.Router.{Router}
use Rattle.ixp_machine_steps.specs.declared.state.Entry.{Entry}
use Rattle.ixp_machine_steps.specs.declared.state.State.{State}
use Rattle.ixp_machine_steps.specs.Runs.{run}
use Rattle.ixp_machine_steps.specs.Views.{view}
use Rattle.ixp_machine.specs.declared.decision.Reply.{Reply}
use Rattle.ixp_machine.specs.declared.question.Answer.{Answer}
use Rattle.ixp_machine.specs.declared.question.Query as machine
use Rattle.ixp_explain.specs.declared.report.OwnReport.{OwnReport}
use Rattle.ixp_explain.specs.Texts.{own_text}
use Rattle.ixp_explain_member.specs.declared.explanation.Explanation.TheVariants as explanation
use Rattle.ixp_explain_member.specs.Rows.{own_report_by_rows}
use Rattle.ixp_api_replies.specs.declared.outcome.Outcome.{Outcome}
use Rattle.ixp_api_replies.specs.declared.outcome.Outcome.TheVariants as outcome
use Rattle.ixp_api.specs.declared.call.ExplainCall.{ExplainCall}
use Rattle.ixp_board.specs.Histories.{entries}
use Rattle.ixp_board.proofs.Entries.{same_first, same_turns}
use Rattle.ixp_desk_history.specs.declared.turn.Answered.TheVariants as answered
use Rattle.ixp_desk_history.specs.declared.turn.Asked.TheVariants.{OwnText}
use Rattle.ixp_desk_history.specs.declared.turn.Event.{Event}
use Rattle.ixp_desk_history.specs.declared.turn.Event.TheVariants.{Edit, Question, Install, Fault}
use Rattle.ixp_desk_history.specs.declared.turn.First.{First}
use Rattle.ixp_desk_history.specs.declared.turn.Text.{Text}
use Rattle.ixp_desk_history.specs.declared.turn.Turn.{Turn}
use Rattle.ixp_desk_history.specs.Answers.{IsAnswered, IsOwnText, is_owned}
use Rattle.ixp_desk_history.specs.Legal.{Legal, MayCome}
use Rattle.ixp_desk_history.specs.Turns.{entries_of, registry_of, state_of}
use Rattle.ixp_desk_history.proofs.Steady.{same_count}
use Rattle.ixp_desk_history.proofs.Versions.{either_begins, legal_before, state_both, state_valid}
use Rattle.ixp_desk_lock.specs.declared.fault.AskFault.{AskFault}
use Rattle.ixp_desk_lock.specs.declared.fault.AskFault.TheVariants as ask
use Rattle.ixp_desk_lock.specs.declared.fault.SubmitFault.{SubmitFault}
use Rattle.ixp_desk_lock.specs.declared.fault.SubmitFault.TheVariants as submit
use Rattle.ixp_desk_lock.specs.Calls.{OwnTexts}
use Rattle.ixp_desk_lock.specs.Facts.{IsQuestion}
use Rattle.ixp_desk_lock.specs.Sights.{Sight}
use Rattle.ixp_desk_explain.specs.Explanations.{OrNoMemory, OwnTextIn, OwnTold, OwnTurn, explanation_outcome, member_says, own_fault}
use Rattle.ixp_desk_link.specs.Turns.{AskTurn, EditTurn, answer_outcome, edit_outcome}
use Rattle.ixp_desk_laws.specs.Calls.{SeesAlike}
use Rattle.ixp_desk_laws.specs.Desks.{IsAfter, IsDecided, IsOf, IsTold}
use Rattle.ixp_desk_laws.specs.Edits.{IsRepeat}
use Rattle.ixp_desk_laws.specs.Links.{IsReply}
use Rattle.ixp_desk_laws.proofs.OwnAnswers.{asks_alike, repeats_told, submits_alike, texts_alike}
use Rattle.ixp_desk_laws.proofs.OwnPlace.{legal_at, own_event}
use Rattle.ixp_desk_laws.proofs.OwnReports.{reports_alike}
use Rattle.ixp_desk_laws.proofs.OwnTexts.{mine_unrefused, senders_alike}
use Rattle.ixp_desk_laws.proofs.Places.{comes}

-- Edits and questions.

edit_decided : (x : Result Reply SubmitFault) → IsReply (edit_outcome x) → IsDecided x
edit_decided (Ok reply) is = tt
edit_decided (Err (submit.Refused x)) is = tt
edit_decided (Err submit.KeeperFault) is = is
edit_decided (Err (submit.SeatCount i k)) is = is
edit_decided (Err (submit.Ended n)) is = is
edit_decided (Err submit.NoMemory) is = is

pub edits_told : (m : ℕ) (a b : Entry) (x y : Outcome) (s t u w : Sight) (f g : First) (before others : List Turn) → EditTurn a x s t → EditTurn b y u w → IsReply x → IsReply y
    → IsOf m a.secret f before s t → IsOf m b.secret g others u w → SeesAlike m (state_of f before) (state_of g others) → a.number ≡ b.number → a.edit ≡ b.edit → x ≡ y
edits_told m a b x y s t u w f g before others (r, is, one) (q, it, two) told told' here there alike number edit =
    is
    ∙ (ap edit_outcome (submits_alike m a b r q s t u w f g before others one two (edit_decided r (subst IsReply is told)) (edit_decided q (subst IsReply it told')) here there alike number edit)
    ∙ sym it)

pub repeats_replied : (e : Entry) (o : Outcome) (s t : Sight) (f : First) (before : List Turn) (owner : Owner) → EditTurn e o s t → IsReply o → IsAfter f before s t → IsRepeat (state_of f before) owner e
    → o ≡ outcome.Done e.number
repeats_replied e o s t f before owner (r, is, one) reply p again = is ∙ ap edit_outcome (repeats_told e r s t f before owner one (edit_decided r (subst IsReply is reply)) p again)

answer_told : (x : Result Answer AskFault) → IsReply (answer_outcome x) → IsTold x
answer_told (Ok a) is = tt
answer_told (Err (ask.Refused x)) is = tt
answer_told (Err ask.NoSession) is = tt
answer_told (Err (ask.SeatCount i k)) is = is
answer_told (Err (ask.Ended n)) is = is
answer_told (Err ask.NoMemory) is = is

pub questions_told : (m : ℕ) (a b : List ℕ) (q : machine.Query) (x y : Outcome) (s t u w : Sight) (f g : First) (before others : List Turn) → AskTurn a q x s t → AskTurn b q y u w → IsReply x → IsReply y
    → IsOf m a f before s t → IsOf m b g others u w → SeesAlike m (state_of f before) (state_of g others) → x ≡ y
questions_told m a b q x y s t u w f g before others (r, is, one) (p, it, two) told told' here there alike =
    is
    ∙ (ap answer_outcome (asks_alike m a b q r p s t u w f g before others one two (answer_told r (subst IsReply is told)) (answer_told p (subst IsReply it told')) here there alike)
    ∙ sym it)

-- Explanations.

-- two places of a history with one count of accepted edits have one state
no_later : (f : First) (xs ys : List Turn) → IsPrefix xs ys → (state_of f ys).accepted ≤ (state_of f xs).accepted → state_of f ys ≡ state_of f xs
no_later f xs ys p low =
    let whole : state_of f ys ≡ run (state_of f xs) (entries_of p.0) = ap (state_of f) (sym p.1) ∙ state_both f xs p.0 in
    whole ∙ same_count (state_of f xs) (entries_of p.0) (subst (λ (s : State). s.accepted ≤ (state_of f xs).accepted) whole low)

one_state : (f : First) (xs ys us vs : List Turn) → xs ++ us ≡ ys ++ vs → (state_of f xs).accepted ≡ (state_of f ys).accepted → state_of f xs ≡ state_of f ys
one_state f xs ys us vs is count = by_case (either_begins xs ys us vs is) where
  by_case : IsPrefix xs ys ⊎ IsPrefix ys xs → state_of f xs ≡ state_of f ys
  by_case (inl p) = sym (no_later f xs ys p (omega (arith, count)))
  by_case (inr p) = no_later f ys xs p (omega (arith, count))

-- a text that was handed out at a place is of its state
text_at : (a router : List ℕ) (n : ℕ) (text : Text) (f : First) (before : List Turn) (v : Event) → MayCome f before v → IsQuestion (OwnText a router n) (answered.Text text) v
    → IsAnswered (state_of f before) (OwnText a router n) (answered.Text text)
text_at a router n text f before (Question q x) may is = subst (λ z. IsAnswered (state_of f before) z (answered.Text text)) is.0 (subst (IsAnswered (state_of f before) q) is.1 may)
text_at a router n text f before (Edit e d) may is = absurd is
text_at a router n text f before (Install upto) may is = absurd is
text_at a router n text f before (Fault count) may is = absurd is

-- what is known of the state by whose own text a member is told
pub record IsSource (m : ℕ) (router : List ℕ) (n : ℕ) (text : Text) (s t : Sight) (f : First) (before : List Turn) (x : OwnTextIn t.2 router n text) : Type 0 where
  pub legal : Legal x.first x.before
  pub state : state_of x.first x.before ≡ state_of f before
  pub mine : is_owned (registry_of x.first x.before) m n ≡ true

pub source_of : (m : ℕ) (a router : List ℕ) (n : ℕ) (text : Text) (s t : Sight) (f : First) (before : List Turn) (x : OwnTextIn t.2 router n text) → OwnTexts a router n (Ok text) s t → IsOf m a f before s t
    → IsSource m router n text s t f before x
source_of m a router n text s t f before x one here =
    let p = here.place in
    let legal : Legal f (before ++ p.turn ∷ p.after) = legal_at f before s t p in
    let answer : IsAnswered (state_of f before) (OwnText a router n) (answered.Text text)
    = text_at a router n text f before p.turn.event (comes f before p.after p.turn legal).event (own_event (IsQuestion (OwnText a router n) (answered.Text text)) f before s t p one) in
    let both : entries x.first (x.before ++ x.after) ≡ entries f (before ++ p.turn ∷ p.after) = sym x.is ∙ p.is in
    let firsts : x.first ≡ f = same_first x.first f (x.before ++ x.after) (before ++ p.turn ∷ p.after) both in
    let turns : x.before ++ x.after ≡ before ++ p.turn ∷ p.after = same_turns x.first f (x.before ++ x.after) (before ++ p.turn ∷ p.after) both in
    let moved : state_of x.first x.before ≡ state_of f x.before = ap (λ (g : First). state_of g x.before) firsts in
    let count : (state_of f x.before).accepted ≡ (state_of f before).accepted = sym (ap (λ (s : State). s.accepted) moved) ∙ (sym x.own.built ∙ answer.1.built) in
    let state : state_of x.first x.before ≡ state_of f before = moved ∙ one_state f x.before before x.after (p.turn ∷ p.after) turns count in
    record {
      legal = legal_before x.first x.before x.after (subst (λ (g : First). Legal g (x.before ++ x.after)) (sym firsts) (subst (Legal f) (sym turns) legal));
      state = state;
      mine = subst (λ (s : State). is_owned s.registry m n ≡ true) (sym state) (mine_unrefused (registry_of f before) a router n m here.own answer.0);
    }

-- by a router of the route's family the report, by another one the family
abbrev said : Route → Router → OwnReport → Outcome
said route router report = explanation_outcome (if same_family router.family route.net.family then explanation.Text (own_text report) else explanation.Refused (Family router.family))

-- what members are told by texts of states that they see alike
says_alike : (m n : ℕ) (handle : List ℕ) (route : Route) (peers : List Asn) (f g : First) (before others : List Turn) (v w : Text) → Legal f before → Legal g others
    → view (state_of f before) m ≡ view (state_of g others) m → is_owned (registry_of f before) m n ≡ true → (x : IsOwnText (state_of f before) handle n v) → (y : IsOwnText (state_of g others) handle n w)
    → said route x.router (own_report_by_rows (registry_of f before) x.router x.sender route peers) ≡ said route y.router (own_report_by_rows (registry_of g others) y.router y.sender route peers)
says_alike m n handle route peers f g before others v w legal legal' seen mine x y =
    let routers = (senders_alike (state_of f before) (state_of g others) m (state_valid f before legal) (state_valid g others legal') seen handle n v w mine x y).0 in
    ap (λ q. said route q (own_report_by_rows (registry_of f before) x.router x.sender route peers)) routers
    ∙ ap (said route y.router) (reports_alike f g before others m n handle route peers v w legal legal' seen mine x y)

-- what isn't out of memory is said
unless_memory : (says o : Outcome) → IsReply o → OrNoMemory says o → o ≡ says
unless_memory says o reply (inl is) = is
unless_memory says o reply (inr is) = absurd (subst IsReply is reply)

pub fault_told : (e : AskFault) → IsReply (own_fault e) → IsTold {A = Text} (Err e)
fault_told (ask.Refused x) is = tt
fault_told ask.NoSession is = tt
fault_told (ask.SeatCount i k) is = is
fault_told (ask.Ended n) is = is
fault_told ask.NoMemory is = is

-- two explanations of one route at one session, with whichever secrets
explained_by : (m : ℕ) (a b : ExplainCall) (r q : Result Text AskFault) (x y : Outcome) (s t u w : Sight) (f g : First) (before others : List Turn)
    → OwnTexts a.secret a.router a.interface r s t → OwnTold a r x t.2 → OwnTexts b.secret a.router a.interface q u w → OwnTold (record a { secret = b.secret; seen = b.seen }) q y w.2
    → IsReply x → IsReply y → IsOf m a.secret f before s t → IsOf m b.secret g others u w → SeesAlike m (state_of f before) (state_of g others) → x ≡ y
explained_by m a b (Ok v) (Ok z) x y s t u w f g before others one (src, says) two (src', says') reply reply' here there alike =
    let source = source_of m a.secret a.router a.interface v s t f before src one here in
    let source' = source_of m b.secret a.router a.interface z u w g others src' two there in
    let seen : view (state_of src.first src.before) m ≡ view (state_of src'.first src'.before) m
    = ap (λ (s : State). view s m) source.state ∙ (alike.own ∙ sym (ap (λ (s : State). view s m) source'.state)) in
    unless_memory (member_says a src.own) x reply says
    ∙ (says_alike m a.interface a.router a.asked.route a.asked.peers src.first src'.first src.before src'.before v z source.legal source'.legal seen source.mine src.own src'.own
    ∙ sym (unless_memory (member_says (record a { secret = b.secret; seen = b.seen }) src'.own) y reply' says'))
explained_by m a b (Err e) (Err c) x y s t u w f g before others one is two it reply reply' here there alike =
    let whole : ◌≡◌ {A = Result Text AskFault} (Err e) (Err c)
    = texts_alike m a.secret b.secret a.router a.interface (Err e) (Err c) s t u w f g before others one two (fault_told e (subst IsReply is reply)) (fault_told c (subst IsReply it reply')) here there alike in
    let same : e ≡ c = cc (whole) in
    is ∙ (ap own_fault same ∙ sym it)
explained_by m a b (Ok v) (Err c) x y s t u w f g before others one says two it reply reply' here there alike =
    let bad : ◌≡◌ {A = Result Text AskFault} (Ok v) (Err c)
    = texts_alike m a.secret b.secret a.router a.interface (Ok v) (Err c) s t u w f g before others one two tt (fault_told c (subst IsReply it reply')) here there alike in
    absurd (let wrong : ⊥ = cc in wrong)
explained_by m a b (Err e) (Ok z) x y s t u w f g before others one is two says reply reply' here there alike =
    let bad : ◌≡◌ {A = Result Text AskFault} (Err e) (Ok z)
    = texts_alike m a.secret b.secret a.router a.interface (Err e) (Ok z) s t u w f g before others one two (fault_told e (subst IsReply is reply)) tt here there alike in
    absurd (let wrong : ⊥ = cc in wrong)

-- a call that asks what another one asks
asked_so : (a b : ExplainCall) → a.router ≡ b.router → a.interface ≡ b.interface → a.asked ≡ b.asked → b ≡ record a { secret = b.secret; seen = b.seen }
asked_so a b router interface asked =
    ap (λ h. record b { router = h }) (sym router) ∙ (ap (λ n. record b { router = a.router; interface = n }) (sym interface) ∙ ap (λ x. record b { router = a.router; interface = a.interface; asked = x }) (sym asked))

pub explanations_told : (m : ℕ) (a b : ExplainCall) (x y : Outcome) (s t u w : Sight) (f g : First) (before others : List Turn) → OwnTurn a x s t → OwnTurn b y u w → IsReply x → IsReply y
    → IsOf m a.secret f before s t → IsOf m b.secret g others u w → SeesAlike m (state_of f before) (state_of g others) → a.router ≡ b.router → a.interface ≡ b.interface → a.asked ≡ b.asked → x ≡ y
explanations_told m a b x y s t u w f g before others one two reply reply' here there alike router interface asked =
    let as_a : OwnTurn (record a { secret = b.secret; seen = b.seen }) y u w = subst (λ c. OwnTurn c y u w) (asked_so a b router interface asked) two in
    explained_by m a b one.0 as_a.0 x y s t u w f g before others one.1 one.2 as_a.1 as_a.2 reply reply' here there alike
