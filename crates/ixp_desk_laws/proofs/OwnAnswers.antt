-- What the calls of a desk answer a member, at places where it sees the same.
use Rattle.std.proofs.Common.{◌≡◌, ℕ, inr, List, Some, Result, Ok, Err, refl, sym, ap, ◌∙◌, subst}
use Rattle.ixp_registry.specs.declared.members.Owner.{Owner}
use Rattle.ixp_registry.specs.declared.members.Owner.TheVariants.{Member}
use Rattle.ixp_registry.specs.declared.refusal.Refusal.{Refusal}
use Rattle.ixp_registry.specs.declared.registry.Registry.{Registry}
use Rattle.ixp_members.specs.Owners.{owner_of}
use Rattle.ixp_machine_steps.specs.declared.state.Entry.{Entry}
use Rattle.ixp_machine_steps.specs.declared.state.State.{State}
use Rattle.ixp_machine.specs.declared.decision.Decision.{Decision}
use Rattle.ixp_machine.specs.declared.decision.Decision.TheVariants as decision
use Rattle.ixp_machine.specs.declared.decision.Reply.{Reply}
use Rattle.ixp_machine.specs.declared.question.Answer.{Answer}
use Rattle.ixp_machine.specs.declared.question.Query as machine
use Rattle.ixp_desk_history.specs.declared.turn.Answered.{Answered}
use Rattle.ixp_desk_history.specs.declared.turn.Answered.TheVariants as answered
use Rattle.ixp_desk_history.specs.declared.turn.Asked.{Asked}
use Rattle.ixp_desk_history.specs.declared.turn.Asked.TheVariants.{Query, OwnText}
use Rattle.ixp_desk_history.specs.declared.turn.Event.{Event}
use Rattle.ixp_desk_history.specs.declared.turn.Event.TheVariants.{Edit, Question, Install, Fault}
use Rattle.ixp_desk_history.specs.declared.turn.First.{First}
use Rattle.ixp_desk_history.specs.declared.turn.Text.{Text}
use Rattle.ixp_desk_history.specs.declared.turn.Turn.{Turn}
use Rattle.ixp_desk_history.specs.Turns.{registry_of, state_of}
use Rattle.ixp_desk_lock.specs.declared.fault.AskFault.{AskFault}
use Rattle.ixp_desk_lock.specs.declared.fault.AskFault.TheVariants as ask
use Rattle.ixp_desk_lock.specs.declared.fault.SubmitFault.{SubmitFault}
use Rattle.ixp_desk_lock.specs.declared.fault.SubmitFault.TheVariants as submit
use Rattle.ixp_desk_lock.specs.Calls.{Asks, Grows, IsEditSo, One, Own, OwnTexts, Submits, WasDone}
use Rattle.ixp_desk_lock.specs.Facts.{IsQuestion}
use Rattle.ixp_desk_lock.specs.Sights.{Sight}
use Rattle.ixp_desk_laws.specs.Calls.{IsAskedBy, IsCallOf, SameAnswer, SameAnswered, SameAsked, SameCall, SameDecision, SeesAlike}
use Rattle.ixp_desk_laws.specs.Desks.{HasPlace, IsAfter, IsDecided, IsOf, IsTold, SameText}
use Rattle.ixp_desk_laws.specs.Edits.{AnswersAgain, IsRepeat, Repeats}
use Rattle.ixp_desk_laws.proofs.OwnCalls.{calls_alike}
use Rattle.ixp_desk_laws.proofs.OwnPlace.{legal_at, own_event, own_place}
use Rattle.ixp_desk_laws.proofs.Sending.{answered_again}

-- two turns of calls at places where the member sees the same
places_alike : (m : ℕ) (s t u w : Sight) (f g : First) (before others : List Turn) (p : IsAfter f before s t) (q : IsAfter g others u w) → IsCallOf (registry_of f before) m p.turn.event
    → IsCallOf (registry_of g others) m q.turn.event → SameCall p.turn.event q.turn.event → SeesAlike m (state_of f before) (state_of g others) → SameAnswer p.turn.event q.turn.event
places_alike m s t u w f g before others p q own other same alike =
    calls_alike f g before others p.after q.after p.turn q.turn m (legal_at f before s t p) (legal_at g others u w q) own other same alike

-- Edits.

edit_own : (So : Decision → Type 0) (e : Entry) (v : Event) (r : Registry) (m : ℕ) → IsEditSo So e v → owner_of r e.secret ≡ Some (Member m) → IsCallOf r m v
edit_own So e (Edit x d) r m is own = subst (λ (e : Entry). owner_of r e.secret ≡ Some (Member m)) (sym is.0) own
edit_own So e (Question q a) r m is own = absurd is
edit_own So e (Install upto) r m is own = absurd is
edit_own So e (Fault count) r m is own = absurd is

edits_same : (So To : Decision → Type 0) (a b : Entry) (v w : Event) → IsEditSo So a v → IsEditSo To b w → a.number ≡ b.number → a.edit ≡ b.edit → SameCall v w
edits_same So To a b (Edit x d) (Edit y c) is it number edit =
    (ap (λ (e : Entry). e.number) is.0 ∙ (number ∙ sym (ap (λ (e : Entry). e.number) it.0)), ap (λ (e : Entry). e.edit) is.0 ∙ (edit ∙ sym (ap (λ (e : Entry). e.edit) it.0)))
edits_same So To a b (Question q x) w is it number edit = absurd is
edits_same So To a b (Install upto) w is it number edit = absurd is
edits_same So To a b (Fault count) w is it number edit = absurd is
edits_same So To a b (Edit x d) (Question q y) is it number edit = absurd it
edits_same So To a b (Edit x d) (Install upto) is it number edit = absurd it
edits_same So To a b (Edit x d) (Fault count) is it number edit = absurd it

-- what was decided of both
abbrev Both : (Decision → Type 0) → (Decision → Type 0) → Type 0
Both So To = (d : Decision) × (c : Decision) × So d × To c × SameDecision d c

both_of : (So To : Decision → Type 0) (a b : Entry) (v w : Event) → IsEditSo So a v → IsEditSo To b w → SameAnswer v w → Both So To
both_of So To a b (Edit x d) (Edit y c) is it same = (d.value, c.value, is.1, it.1, same)
both_of So To a b (Question q x) w is it same = absurd is
both_of So To a b (Install upto) w is it same = absurd is
both_of So To a b (Fault count) w is it same = absurd is
both_of So To a b (Edit x d) (Question q y) is it same = absurd it
both_of So To a b (Edit x d) (Install upto) is it same = absurd it
both_of So To a b (Edit x d) (Fault count) is it same = absurd it

-- edits that are the same are decided the same
edits_alike : (So To : Decision → Type 0) (m : ℕ) (a b : Entry) (s t u w : Sight) (f g : First) (before others : List Turn) → Own (One (IsEditSo So a)) s t → Own (One (IsEditSo To b)) u w
    → IsOf m a.secret f before s t → IsOf m b.secret g others u w → SeesAlike m (state_of f before) (state_of g others) → a.number ≡ b.number → a.edit ≡ b.edit → Both So To
edits_alike So To m a b s t u w f g before others one two here there alike number edit =
    let p = here.place in
    let q = there.place in
    let is : IsEditSo So a p.turn.event = own_event (IsEditSo So a) f before s t p one in
    let it : IsEditSo To b q.turn.event = own_event (IsEditSo To b) g others u w q two in
    both_of So To a b p.turn.event q.turn.event is it
    (places_alike m s t u w f g before others p q (edit_own So a p.turn.event (registry_of f before) m is here.own) (edit_own To b q.turn.event (registry_of g others) m it there.own)
    (edits_same So To a b p.turn.event q.turn.event is it number edit) alike)

done_unrefused : (d : Decision) (x : Refusal) → WasDone d → SameDecision d (decision.Refused x) → ⊥
done_unrefused (decision.Accepted owner) x done same = cc
done_unrefused (decision.Repeated reply) x done same = cc
done_unrefused (decision.Refused y) x done same = done

refused_undone : (d : Decision) (x : Refusal) → WasDone d → SameDecision (decision.Refused x) d → ⊥
refused_undone (decision.Accepted owner) x done same = cc
refused_undone (decision.Repeated reply) x done same = cc
refused_undone (decision.Refused y) x done same = done

submits_by : (a b : Entry) (x y : Result Reply SubmitFault) (s t u w : Sight) → Submits a x s t → Submits b y u w → IsDecided x → IsDecided y → a.number ≡ b.number
    → ((So To : Decision → Type 0) → Own (One (IsEditSo So a)) s t → Own (One (IsEditSo To b)) u w → Both So To) → x ≡ y
submits_by a b (Ok x) (Ok y) s t u w (number, one) (number', two) told told' same both = ap (λ n. Ok (record { number = n })) (number ∙ (same ∙ sym number'))
submits_by a b (Ok x) (Err (submit.Refused y)) s t u w (number, one) two told told' same both =
    let (d, c, done, is, alike) = both WasDone (λ d. d ≡ decision.Refused y) one.own two.own in
    absurd (done_unrefused d y done (subst (SameDecision d) is alike))
submits_by a b (Err (submit.Refused x)) (Ok y) s t u w one (number, two) told told' same both =
    let (d, c, is, done, alike) = both (λ d. d ≡ decision.Refused x) WasDone one.own two.own in
    absurd (refused_undone c x done (subst (λ z. SameDecision z c) is alike))
submits_by a b (Err (submit.Refused x)) (Err (submit.Refused y)) s t u w one two told told' same both =
    let (d, c, is, it, alike) = both (λ d. d ≡ decision.Refused x) (λ d. d ≡ decision.Refused y) one.own two.own in
    let whole : decision.Refused x ≡ decision.Refused y = subst (λ z. SameDecision z (decision.Refused y)) is (subst (SameDecision d) it alike) in
    let one : x ≡ y = cc (whole) in
    ap (λ z. Err (submit.Refused z)) one
submits_by a b (Err submit.KeeperFault) y s t u w one two told told' same both = absurd told
submits_by a b (Err (submit.SeatCount i k)) y s t u w one two told told' same both = absurd told
submits_by a b (Err (submit.Ended n)) y s t u w one two told told' same both = absurd told
submits_by a b (Err submit.NoMemory) y s t u w one two told told' same both = absurd told
submits_by a b x (Err submit.KeeperFault) s t u w one two told told' same both = absurd told'
submits_by a b x (Err (submit.SeatCount i k)) s t u w one two told told' same both = absurd told'
submits_by a b x (Err (submit.Ended n)) s t u w one two told told' same both = absurd told'
submits_by a b x (Err submit.NoMemory) s t u w one two told told' same both = absurd told'

pub submits_alike : (m : ℕ) (a b : Entry) (x y : Result Reply SubmitFault) (s t u w : Sight) (f g : First) (before others : List Turn) → Submits a x s t → Submits b y u w → IsDecided x → IsDecided y
    → IsOf m a.secret f before s t → IsOf m b.secret g others u w → SeesAlike m (state_of f before) (state_of g others) → a.number ≡ b.number → a.edit ≡ b.edit → x ≡ y
submits_alike m a b x y s t u w f g before others one two told told' here there alike number edit =
    submits_by a b x y s t u w one two told told' number (λ So To o p. edits_alike So To m a b s t u w f g before others o p here there alike number edit)

-- Questions.

question_own : (q : Asked) (a : Answered) (v : Event) (r : Registry) (m : ℕ) → IsQuestion q a v → IsAskedBy r m q → IsCallOf r m v
question_own q a (Question x y) r m is own = subst (IsAskedBy r m) (sym is.0) own
question_own q a (Edit e d) r m is own = absurd is
question_own q a (Install upto) r m is own = absurd is
question_own q a (Fault count) r m is own = absurd is

questions_same : (q p : Asked) (a b : Answered) (v w : Event) → IsQuestion q a v → IsQuestion p b w → SameAsked q p → SameCall v w
questions_same q p a b (Question x c) (Question y d) is it same = subst (λ z. SameAsked z y) (sym is.0) (subst (SameAsked q) (sym it.0) same)
questions_same q p a b (Edit e d) w is it same = absurd is
questions_same q p a b (Install upto) w is it same = absurd is
questions_same q p a b (Fault count) w is it same = absurd is
questions_same q p a b (Question x c) (Edit e d) is it same = absurd it
questions_same q p a b (Question x c) (Install upto) is it same = absurd it
questions_same q p a b (Question x c) (Fault count) is it same = absurd it

answers_of : (q p : Asked) (a b : Answered) (v w : Event) → IsQuestion q a v → IsQuestion p b w → SameAnswer v w → SameAnswered a b
answers_of q p a b (Question x c) (Question y d) is it same = subst (λ z. SameAnswered z b) is.1 (subst (SameAnswered c.value) it.1 same)
answers_of q p a b (Edit e d) w is it same = absurd is
answers_of q p a b (Install upto) w is it same = absurd is
answers_of q p a b (Fault count) w is it same = absurd is
answers_of q p a b (Question x c) (Edit e d) is it same = absurd it
answers_of q p a b (Question x c) (Install upto) is it same = absurd it
answers_of q p a b (Question x c) (Fault count) is it same = absurd it

module _ (m : ℕ) (s t u w : Sight) (f g : First) (before others : List Turn) (q p : Asked) (here : IsAfter f before s t) (there : IsAfter g others u w) (own : IsAskedBy (registry_of f before) m q)
    (other : IsAskedBy (registry_of g others) m p) (same : SameAsked q p) (alike : SeesAlike m (state_of f before) (state_of g others)) where
  -- questions that are the same are answered the same
  answers_alike : (a b : Answered) → Own (One (IsQuestion q a)) s t → Own (One (IsQuestion p b)) u w → SameAnswered a b
  answers_alike a b one two =
      let is : IsQuestion q a here.turn.event = own_event (IsQuestion q a) f before s t here one in
      let it : IsQuestion p b there.turn.event = own_event (IsQuestion p b) g others u w there two in
      answers_of q p a b here.turn.event there.turn.event is it
      (places_alike m s t u w f g before others here there (question_own q a here.turn.event (registry_of f before) m is own) (question_own p b there.turn.event (registry_of g others) m it other)
      (questions_same q p a b here.turn.event there.turn.event is it same) alike)

-- by what is said of two turns that are asked the same
abbrev Alike : Asked → Asked → Sight → Sight → Sight → Sight → Type 0
Alike q p s t u w = (a b : Answered) → Own (One (IsQuestion q a)) s t → Own (One (IsQuestion p b)) u w → SameAnswered a b

asks_by : (a b : List ℕ) (q : machine.Query) (x y : Result Answer AskFault) (s t u w : Sight) → Asks a q x s t → Asks b q y u w → IsTold x → IsTold y → Alike (Query a q) (Query b q) s t u w → x ≡ y
asks_by a b q (Ok x) (Ok y) s t u w one two told told' both =
    let whole : answered.Answer x ≡ answered.Answer y = both (answered.Answer x) (answered.Answer y) one two in
    let is : x ≡ y = cc (whole) in
    ap Ok is
asks_by a b q (Err (ask.Refused x)) (Err (ask.Refused y)) s t u w one two told told' both =
    let whole : answered.Refused x ≡ answered.Refused y = both (answered.Refused x) (answered.Refused y) one two in
    let is : x ≡ y = cc (whole) in
    ap (λ z. Err (ask.Refused z)) is
asks_by a b q (Ok x) (Err (ask.Refused y)) s t u w one two told told' both =
    let bad : answered.Answer x ≡ answered.Refused y = both (answered.Answer x) (answered.Refused y) one two in
    absurd (let wrong : ⊥ = cc in wrong)
asks_by a b q (Err (ask.Refused x)) (Ok y) s t u w one two told told' both =
    let bad : answered.Refused x ≡ answered.Answer y = both (answered.Refused x) (answered.Answer y) one two in
    absurd (let wrong : ⊥ = cc in wrong)
asks_by a b q (Err ask.NoSession) y s t u w one two told told' both = absurd one
asks_by a b q (Err (ask.SeatCount i k)) y s t u w one two told told' both = absurd told
asks_by a b q (Err (ask.Ended n)) y s t u w one two told told' both = absurd told
asks_by a b q (Err ask.NoMemory) y s t u w one two told told' both = absurd told
asks_by a b q x (Err ask.NoSession) s t u w one two told told' both = absurd two
asks_by a b q x (Err (ask.SeatCount i k)) s t u w one two told told' both = absurd told'
asks_by a b q x (Err (ask.Ended n)) s t u w one two told told' both = absurd told'
asks_by a b q x (Err ask.NoMemory) s t u w one two told told' both = absurd told'

pub asks_alike : (m : ℕ) (a b : List ℕ) (q : machine.Query) (x y : Result Answer AskFault) (s t u w : Sight) (f g : First) (before others : List Turn) → Asks a q x s t → Asks b q y u w
    → IsTold x → IsTold y → IsOf m a f before s t → IsOf m b g others u w → SeesAlike m (state_of f before) (state_of g others) → x ≡ y
asks_alike m a b q x y s t u w f g before others one two told told' here there alike =
    asks_by a b q x y s t u w one two told told'
    (answers_alike m s t u w f g before others (Query a q) (Query b q) here.place there.place (inr here.own) (inr there.own) refl alike)

texts_by : (a b router : List ℕ) (n : ℕ) (x y : Result Text AskFault) (s t u w : Sight) → OwnTexts a router n x s t → OwnTexts b router n y u w → IsTold x → IsTold y
    → Alike (OwnText a router n) (OwnText b router n) s t u w → SameText x y
texts_by a b router n (Ok x) (Ok y) s t u w one two told told' both = both (answered.Text x) (answered.Text y) one two
texts_by a b router n (Err (ask.Refused x)) (Err (ask.Refused y)) s t u w one two told told' both =
    let whole : answered.Refused x ≡ answered.Refused y = both (answered.Refused x) (answered.Refused y) one two in
    let is : x ≡ y = cc (whole) in
    ap (λ z. Err (ask.Refused z)) is
texts_by a b router n (Err ask.NoSession) (Err ask.NoSession) s t u w one two told told' both = refl
texts_by a b router n (Ok x) (Err (ask.Refused y)) s t u w one two told told' both =
    let bad : answered.Text x ≡ answered.Refused y = both (answered.Text x) (answered.Refused y) one two in
    absurd (let wrong : ⊥ = cc in wrong)
texts_by a b router n (Ok x) (Err ask.NoSession) s t u w one two told told' both =
    let bad : answered.Text x ≡ answered.NoSession = both (answered.Text x) answered.NoSession one two in
    absurd (let wrong : ⊥ = cc in wrong)
texts_by a b router n (Err (ask.Refused x)) (Ok y) s t u w one two told told' both =
    let bad : answered.Refused x ≡ answered.Text y = both (answered.Refused x) (answered.Text y) one two in
    absurd (let wrong : ⊥ = cc in wrong)
texts_by a b router n (Err (ask.Refused x)) (Err ask.NoSession) s t u w one two told told' both =
    let bad : answered.Refused x ≡ answered.NoSession = both (answered.Refused x) answered.NoSession one two in
    absurd (let wrong : ⊥ = cc in wrong)
texts_by a b router n (Err ask.NoSession) (Ok y) s t u w one two told told' both =
    let bad : answered.NoSession ≡ answered.Text y = both answered.NoSession (answered.Text y) one two in
    absurd (let wrong : ⊥ = cc in wrong)
texts_by a b router n (Err ask.NoSession) (Err (ask.Refused y)) s t u w one two told told' both =
    let bad : answered.NoSession ≡ answered.Refused y = both answered.NoSession (answered.Refused y) one two in
    absurd (let wrong : ⊥ = cc in wrong)
texts_by a b router n (Err (ask.SeatCount i k)) y s t u w one two told told' both = absurd told
texts_by a b router n (Err (ask.Ended k)) y s t u w one two told told' both = absurd told
texts_by a b router n (Err ask.NoMemory) y s t u w one two told told' both = absurd told
texts_by a b router n x (Err (ask.SeatCount i k)) s t u w one two told told' both = absurd told'
texts_by a b router n x (Err (ask.Ended k)) s t u w one two told told' both = absurd told'
texts_by a b router n x (Err ask.NoMemory) s t u w one two told told' both = absurd told'

pub texts_alike : (m : ℕ) (a b router : List ℕ) (n : ℕ) (x y : Result Text AskFault) (s t u w : Sight) (f g : First) (before others : List Turn) → OwnTexts a router n x s t → OwnTexts b router n y u w
    → IsTold x → IsTold y → IsOf m a f before s t → IsOf m b g others u w → SeesAlike m (state_of f before) (state_of g others) → SameText x y
texts_alike m a b router n x y s t u w f g before others one two told told' here there alike =
    texts_by a b router n x y s t u w one two told told'
    (answers_alike m s t u w f g before others (OwnText a router n) (OwnText b router n) here.place there.place here.own there.own (refl, refl) alike)

-- Repeats.

repeats_by : (s : State) (owner : Owner) (e : Entry) (x : Refusal) (v : Event) → IsRepeat s owner e → IsEditSo (λ d. d ≡ decision.Refused x) e v → (Repeats s owner v → AnswersAgain v) → ⊥
repeats_by s owner e x (Edit y d) again is answers =
    let bad : decision.Refused x ≡ decision.Repeated (record { number = y.value.number }) = sym is.1 ∙ answers (subst (IsRepeat s owner) (sym is.0) again) in
    let wrong : ⊥ = cc in wrong
repeats_by s owner e x (Question q a) again is answers = is
repeats_by s owner e x (Install upto) again is answers = is
repeats_by s owner e x (Fault count) again is answers = is

pub repeats_told : (e : Entry) (x : Result Reply SubmitFault) (s t : Sight) (f : First) (before : List Turn) (owner : Owner) → Submits e x s t → IsDecided x → IsAfter f before s t
    → IsRepeat (state_of f before) owner e → x ≡ Ok (record { number = e.number })
repeats_told e (Ok x) s t f before owner (number, one) told p again = ap (λ n. Ok (record { number = n })) number
repeats_told e (Err (submit.Refused x)) s t f before owner one told p again =
    absurd (repeats_by (state_of f before) owner e x p.turn.event again (own_event (IsEditSo (λ d. d ≡ decision.Refused x) e) f before s t p one.own)
    (λ is. answered_again f before p.after p.turn owner (legal_at f before s t p) is))
repeats_told e (Err submit.KeeperFault) s t f before owner one told p again = absurd told
repeats_told e (Err (submit.SeatCount i k)) s t f before owner one told p again = absurd told
repeats_told e (Err (submit.Ended n)) s t f before owner one told p again = absurd told
repeats_told e (Err submit.NoMemory) s t f before owner one told p again = absurd told

-- Places.

pub submit_place : (e : Entry) (x : Result Reply SubmitFault) (s t : Sight) → Grows s t → Submits e x s t → IsDecided x → HasPlace s t
submit_place e (Ok x) s t grows (number, one) told = own_place (IsEditSo WasDone e) s t grows one.own
submit_place e (Err (submit.Refused x)) s t grows one told = own_place (IsEditSo (λ d. d ≡ decision.Refused x) e) s t grows one.own
submit_place e (Err submit.KeeperFault) s t grows one told = absurd told
submit_place e (Err (submit.SeatCount i k)) s t grows one told = absurd told
submit_place e (Err (submit.Ended n)) s t grows one told = absurd told
submit_place e (Err submit.NoMemory) s t grows one told = absurd told

pub ask_place : (a : List ℕ) (q : machine.Query) (x : Result Answer AskFault) (s t : Sight) → Grows s t → Asks a q x s t → IsTold x → HasPlace s t
ask_place a q (Ok x) s t grows one told = own_place (IsQuestion (Query a q) (answered.Answer x)) s t grows one
ask_place a q (Err (ask.Refused x)) s t grows one told = own_place (IsQuestion (Query a q) (answered.Refused x)) s t grows one
ask_place a q (Err ask.NoSession) s t grows one told = absurd one
ask_place a q (Err (ask.SeatCount i k)) s t grows one told = absurd told
ask_place a q (Err (ask.Ended n)) s t grows one told = absurd told
ask_place a q (Err ask.NoMemory) s t grows one told = absurd told

pub text_place : (a router : List ℕ) (n : ℕ) (x : Result Text AskFault) (s t : Sight) → Grows s t → OwnTexts a router n x s t → IsTold x → HasPlace s t
text_place a router n (Ok x) s t grows one told = own_place (IsQuestion (OwnText a router n) (answered.Text x)) s t grows one
text_place a router n (Err (ask.Refused x)) s t grows one told = own_place (IsQuestion (OwnText a router n) (answered.Refused x)) s t grows one
text_place a router n (Err ask.NoSession) s t grows one told = own_place (IsQuestion (OwnText a router n) answered.NoSession) s t grows one
text_place a router n (Err (ask.SeatCount i k)) s t grows one told = absurd told
text_place a router n (Err (ask.Ended k)) s t grows one told = absurd told
text_place a router n (Err ask.NoMemory) s t grows one told = absurd told
