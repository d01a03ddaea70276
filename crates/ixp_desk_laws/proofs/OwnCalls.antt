-- What a member's calls are answered in states that it sees alike.
use Rattle.std.proofs.Common.{◌≡◌, ◌⊎◌, inl, inr, ℕ, List, [], ◌∷◌, ◌++◌, Option, Some, None, refl, sym, ap, ◌∙◌, subst, if◌then◌else◌}
use Rattle.ixp_num.specs.declared.family.Family.{Family}
use Rattle.ixp_num_tables.specs.Tables.{if_there}
use Rattle.ixp_registry.specs.declared.members.Member.{Member}
use Rattle.ixp_registry.specs.declared.members.Owner.TheVariants.{Member as Of}
use Rattle.ixp_registry.specs.declared.refusal.Refusal.{Refusal}
use Rattle.ixp_registry.specs.declared.refusal.Refusal.TheVariants.{NoKey, Denied, KeyReused}
use Rattle.ixp_registry.specs.declared.refusal.Right.{Right}
use Rattle.ixp_registry.specs.declared.refusal.Right.TheVariants as right
use Rattle.ixp_registry.specs.declared.refusal.RowKey.{RowKey}
use Rattle.ixp_registry.specs.declared.refusal.RowKey.TheVariants as key
use Rattle.ixp_registry.specs.declared.registry.Registry.{Registry}
use Rattle.ixp_members.specs.Owners.{owner_of}
use Rattle.ixp_machine_steps.specs.declared.state.Entry.{Entry}
use Rattle.ixp_machine_steps.specs.declared.state.State.{State}
use Rattle.ixp_machine_steps.specs.declared.subject.Subject.{Subject}
use Rattle.ixp_machine_steps.specs.declared.subject.Subject.TheVariants.{Number, Pair, Handle, Public}
use Rattle.ixp_machine_steps.specs.Rights.{has_right}
use Rattle.ixp_machine_steps.specs.Runs.{run}
use Rattle.ixp_machine_steps.specs.States.{ValidState}
use Rattle.ixp_machine_steps.specs.Steps.{Verdict, Accepted, Repeated, Reused, Refused, verdict, verdict_of}
use Rattle.ixp_machine_steps.specs.Views.{view}
use Rattle.ixp_machine_steps.proofs.Isolating.{apart}
use Rattle.ixp_machine.specs.declared.decision.Decision.{Decision}
use Rattle.ixp_machine.specs.declared.decision.Decision.TheVariants as decision
use Rattle.ixp_machine.specs.declared.question.Answer.{Answer}
use Rattle.ixp_machine.specs.declared.question.Answer.TheVariants as answer
use Rattle.ixp_machine.specs.declared.question.Query as machine
use Rattle.ixp_machine.specs.declared.question.Query.TheVariants.{Member as OfMember, Contacts, Rules, Use, Ixf, Dump}
use Rattle.ixp_machine.specs.Decisions.{Names, Says}
use Rattle.ixp_machine.specs.Others.{LeavesOthers}
use Rattle.ixp_machine.specs.Questions.{IsAnswer, ask_refusal, right_asked, unless_known}
use Rattle.ixp_machine.proofs.OthersKept.{others_kept}
use Rattle.ixp_machine.proofs.OwnQuestions.{answer_apart, export_apart, refusal_apart}
use Rattle.ixp_desk_history.specs.declared.turn.Answered.{Answered}
use Rattle.ixp_desk_history.specs.declared.turn.Answered.TheVariants as answered
use Rattle.ixp_desk_history.specs.declared.turn.Asked.{Asked}
use Rattle.ixp_desk_history.specs.declared.turn.Asked.TheVariants.{Query, OwnText, Seen}
use Rattle.ixp_desk_history.specs.declared.turn.Event.{Event}
use Rattle.ixp_desk_history.specs.declared.turn.Event.TheVariants.{Edit, Question, Install, Fault}
use Rattle.ixp_desk_history.specs.declared.turn.First.{First}
use Rattle.ixp_desk_history.specs.declared.turn.Turn.{Turn}
use Rattle.ixp_desk_history.specs.Answers.{IsAnswered}
use Rattle.ixp_desk_history.specs.Legal.{Legal, MayCome}
use Rattle.ixp_desk_history.specs.Turns.{entry_in, registry_of, state_of}
use Rattle.ixp_desk_history.proofs.Snocs.{state_snoc}
use Rattle.ixp_desk_history.proofs.Versions.{legal_before, state_valid}
use Rattle.ixp_desk_laws.specs.Calls.{IsAskedBy, IsCallOf, SameAnswer, SameAnswered, SameAsked, SameCall, SameDecision, SeesAlike}
use Rattle.ixp_desk_laws.proofs.OwnTexts.{own_alike}
use Rattle.ixp_desk_laws.proofs.Places.{comes}

-- Edits.

-- the key that names a subject
abbrev named : Subject → RowKey
named (Number n) = key.Number n
named (Pair a b) = key.Pair a b
named (Handle h) = key.Handle h
named (Public p) = key.Public p

names_is : (k : RowKey) (subject : Subject) → Names k subject → k ≡ named subject
names_is (key.Number n) (Number m) is = ap key.Number is
names_is (key.Pair a b) (Pair c d) is = ap (λ x. key.Pair x b) is.0 ∙ ap (key.Pair c) is.1
names_is (key.Handle h) (Handle g) is = ap key.Handle is
names_is (key.Public p) (Public q) is = ap key.Public is
names_is k subject is = absurd is

-- one verdict is told by one decision
decision_of : (n : ℕ) (v : Verdict) (d c : Decision) → Says n v d → Says n v c → SameDecision d c
decision_of n Accepted d c (owner, is) (other, it) = subst (λ x. SameDecision x c) (sym is) (subst (SameDecision (decision.Accepted owner)) (sym it) tt)
decision_of n Repeated d c is it = subst (λ x. SameDecision x c) (sym is) (subst (SameDecision (decision.Repeated (record { number = n }))) (sym it) refl)
decision_of n (Reused kind subject) d c (k, is, names) (l, it, names') =
    let keys : k ≡ l = names_is k subject names ∙ sym (names_is l subject names') in
    subst (λ x. SameDecision x c) (sym is)
    (subst (SameDecision (decision.Refused (KeyReused kind k))) (sym it) (ap (λ x. decision.Refused (KeyReused kind x)) keys))
decision_of n (Refused x) d c is it = subst (λ x. SameDecision x c) (sym is) (subst (SameDecision (decision.Refused x)) (sym it) refl)

verdict_alike : (s t : State) (m : ℕ) (e f : Entry) → owner_of s.registry e.secret ≡ Some (Of m) → owner_of t.registry f.secret ≡ Some (Of m) → e.number ≡ f.number → e.edit ≡ f.edit → view s m ≡ view t m
    → verdict s e ≡ verdict t f
verdict_alike s t m e f own other number edit seen =
    ap (λ o. if_there o (Refused NoKey) (λ owner. verdict_of s owner e.number e.edit)) own
    ∙ (apart s t m e.number e.edit seen
    ∙ (ap (λ n. verdict_of t (Of m) n e.edit) number
    ∙ (ap (verdict_of t (Of m) f.number) edit
    ∙ sym (ap (λ o. if_there o (Refused NoKey) (λ owner. verdict_of t owner f.number f.edit)) other))))

-- Questions.

denied : (r : Registry) (secret : List ℕ) (m vlan : ℕ) (f : Family) → owner_of r secret ≡ Some (Of m) → ask_refusal r secret (Use vlan f) ≡ Some (Denied right.Staff)
denied r secret m vlan f own = ap (λ o. if_there o (Some NoKey) (λ owner. if has_right owner right.Staff then unless_known r (Use vlan f) else Some (Denied right.Staff))) own

-- a member's question has one answer
one_answer : (r : Registry) (secret : List ℕ) (m : ℕ) (q : machine.Query) (x y : Answer) → owner_of r secret ≡ Some (Of m) → ask_refusal r secret q ≡ None → IsAnswer r q x → IsAnswer r q y → x ≡ y
one_answer r secret m (OfMember n) x y own none (row, found, is) (other, found', it) =
    let whole : ◌≡◌ {A = Option Member} (Some row) (Some other) = sym found ∙ found' in
    is ∙ (ap (λ o. if_there o x answer.Member) whole ∙ sym it)
one_answer r secret m (Contacts n) x y own none is it = is ∙ sym it
one_answer r secret m (Rules n) x y own none is it = is ∙ sym it
one_answer r secret m (Use vlan f) x y own none is it =
    let bad : ◌≡◌ {A = Option Refusal} (Some (Denied right.Staff)) None = sym (denied r secret m vlan f own) ∙ none in
    absurd (let wrong : ⊥ = cc in wrong)
one_answer r secret m (Ixf second) x y own none is it = is ∙ sym it
one_answer r secret m Dump x y own none is it = is ∙ sym it

-- where a right is asked for, a secret is shown
with_key : {P : Type 0} (asked : Right) → ◌≡◌ {A = Option Right} (Some asked) None ⊎ P → P
with_key asked (inl none) = absurd (let bad : ⊥ = cc in bad)
with_key asked (inr own) = own

module _ (s t : State) (m : ℕ) (alike : SeesAlike m s t) where
  -- an answer in one of the states is one in the other
  moved : (a : List ℕ) (q : machine.Query) (x : Answer) → owner_of s.registry a ≡ Some (Of m) → ask_refusal s.registry a q ≡ None → IsAnswer s.registry q x → IsAnswer t.registry q x
  moved a (Ixf second) x own none is = export_apart s t second x alike.exchange alike.members is
  moved a (OfMember n) x own none is = answer_apart s t m a (OfMember n) (right.Member n) x own refl none alike.own is
  moved a (Contacts n) x own none is = answer_apart s t m a (Contacts n) (right.Member n) x own refl none alike.own is
  moved a (Rules n) x own none is = answer_apart s t m a (Rules n) (right.Member n) x own refl none alike.own is
  moved a (Use vlan f) x own none is = answer_apart s t m a (Use vlan f) right.Staff x own refl none alike.own is
  moved a Dump x own none is = answer_apart s t m a Dump right.Staff x own refl none alike.own is

  query_alike : (a b : List ℕ) (q : machine.Query) (x y : Answered) → owner_of s.registry a ≡ Some (Of m) → owner_of t.registry b ≡ Some (Of m)
      → IsAnswered s (Query a q) x → IsAnswered t (Query b q) y → SameAnswered x y
  query_alike a b q (answered.Answer x) (answered.Answer y) own other (none, is) (none', it) =
      ap answered.Answer (one_answer t.registry b m q x y other none' (moved a q x own none is) it)
  query_alike a b q (answered.Refused x) (answered.Refused y) own other is it =
      let whole : ◌≡◌ {A = Option Refusal} (Some x) (Some y) = sym is ∙ (refusal_apart s t m a b q own other alike.own ∙ it) in
      ap (λ o. if_there o (answered.Refused x) answered.Refused) whole
  query_alike a b q (answered.Answer x) (answered.Refused y) own other (none, is) it =
      let bad : ◌≡◌ {A = Option Refusal} None (Some y) = sym none ∙ (refusal_apart s t m a b q own other alike.own ∙ it) in
      absurd (let wrong : ⊥ = cc in wrong)
  query_alike a b q (answered.Refused x) (answered.Answer y) own other is (none', it) =
      let bad : ◌≡◌ {A = Option Refusal} (Some x) None = sym is ∙ (refusal_apart s t m a b q own other alike.own ∙ none') in
      absurd (let wrong : ⊥ = cc in wrong)
  query_alike a b q (answered.Text x) y own other is it = absurd is
  query_alike a b q (answered.Place x) y own other is it = absurd is
  query_alike a b q answered.NoSession y own other is it = absurd is
  query_alike a b q (answered.Answer x) (answered.Text y) own other is it = absurd it
  query_alike a b q (answered.Answer x) (answered.Place y) own other is it = absurd it
  query_alike a b q (answered.Answer x) answered.NoSession own other is it = absurd it
  query_alike a b q (answered.Refused x) (answered.Text y) own other is it = absurd it
  query_alike a b q (answered.Refused x) (answered.Place y) own other is it = absurd it
  query_alike a b q (answered.Refused x) answered.NoSession own other is it = absurd it

  -- the export asks for no key
  export_alike : (a b : List ℕ) (second : ℕ) (x y : Answered) → IsAnswered s (Query a (Ixf second)) x → IsAnswered t (Query b (Ixf second)) y → SameAnswered x y
  export_alike a b second (answered.Answer x) (answered.Answer y) (none, is) (none', it) = ap answered.Answer (export_apart s t second x alike.exchange alike.members is ∙ sym it)
  export_alike a b second (answered.Refused x) y is it = let bad : ◌≡◌ {A = Option Refusal} None (Some x) = is in absurd (let wrong : ⊥ = cc in wrong)
  export_alike a b second (answered.Text x) y is it = absurd is
  export_alike a b second (answered.Place x) y is it = absurd is
  export_alike a b second answered.NoSession y is it = absurd is
  export_alike a b second (answered.Answer x) (answered.Refused y) is it = let bad : ◌≡◌ {A = Option Refusal} None (Some y) = it in absurd (let wrong : ⊥ = cc in wrong)
  export_alike a b second (answered.Answer x) (answered.Text y) is it = absurd it
  export_alike a b second (answered.Answer x) (answered.Place y) is it = absurd it
  export_alike a b second (answered.Answer x) answered.NoSession is it = absurd it

  -- all other questions ask for one
  by_right : (a b : List ℕ) (q : machine.Query) (x y : Answered) → (right_asked q ≡ None) ⊎ (owner_of s.registry a ≡ Some (Of m)) → (right_asked q ≡ None) ⊎ (owner_of t.registry b ≡ Some (Of m))
      → IsAnswered s (Query a q) x → IsAnswered t (Query b q) y → SameAnswered x y
  by_right a b (Ixf second) x y own other is it = export_alike a b second x y is it
  by_right a b (OfMember n) x y own other is it = query_alike a b (OfMember n) x y (with_key (right.Member n) own) (with_key (right.Member n) other) is it
  by_right a b (Contacts n) x y own other is it = query_alike a b (Contacts n) x y (with_key (right.Member n) own) (with_key (right.Member n) other) is it
  by_right a b (Rules n) x y own other is it = query_alike a b (Rules n) x y (with_key (right.Member n) own) (with_key (right.Member n) other) is it
  by_right a b (Use vlan f) x y own other is it = query_alike a b (Use vlan f) x y (with_key right.Staff own) (with_key right.Staff other) is it
  by_right a b Dump x y own other is it = query_alike a b Dump x y (with_key right.Staff own) (with_key right.Staff other) is it

  asked_alike : (q p : Asked) (x y : Answered) → ValidState s → ValidState t → IsAskedBy s.registry m q → IsAskedBy t.registry m p → SameAsked q p → IsAnswered s q x → IsAnswered t p y → SameAnswered x y
  asked_alike (Query a q) (Query b p) x y valid valid' own other same is it =
      by_right a b q x y own (subst (λ z. (right_asked z ≡ None) ⊎ (owner_of t.registry b ≡ Some (Of m))) (sym same) other) is (subst (λ z. IsAnswered t (Query b z) y) (sym same) it)
  asked_alike (OwnText a handle n) (OwnText b router k) x y valid valid' own other same is it =
      own_alike s t m valid valid' alike.own a b handle n x y own other is
      (subst (λ z. IsAnswered t (OwnText b z n) y) (sym same.0) (subst (λ z. IsAnswered t (OwnText b router z) y) (sym same.1) it))
  asked_alike (Seen owner n) p x y valid valid' own other same is it = absurd own
  asked_alike (Query a q) (OwnText b router k) x y valid valid' own other same is it = absurd same
  asked_alike (Query a q) (Seen owner n) x y valid valid' own other same is it = absurd same
  asked_alike (OwnText a handle n) (Query b p) x y valid valid' own other same is it = absurd same
  asked_alike (OwnText a handle n) (Seen owner k) x y valid valid' own other same is it = absurd same

-- Turns.

events_alike : (f g : First) (before others : List Turn) (m : ℕ) (v w : Event) → ValidState (state_of f before) → ValidState (state_of g others) → MayCome f before v → MayCome g others w
    → IsCallOf (registry_of f before) m v → IsCallOf (registry_of g others) m w → SameCall v w → SeesAlike m (state_of f before) (state_of g others) → SameAnswer v w
events_alike f g before others m (Edit e d) (Edit i c) valid valid' may might own other same alike =
    let verdicts : verdict (state_of f before) e.value ≡ verdict (state_of g others) i.value
    = verdict_alike (state_of f before) (state_of g others) m e.value i.value own other same.0 same.1 alike.own in
    decision_of e.value.number (verdict (state_of f before) e.value) d.value c.value may.2
    (subst (λ v. Says e.value.number v c.value) (sym verdicts) (subst (λ n. Says n (verdict (state_of g others) i.value) c.value) (sym same.0) might.2))
events_alike f g before others m (Question q a) (Question p b) valid valid' may might own other same alike =
    asked_alike (state_of f before) (state_of g others) m alike q p a.value b.value valid valid' own other same may might
events_alike f g before others m (Install upto) w valid valid' may might own other same alike = absurd own
events_alike f g before others m (Fault count) w valid valid' may might own other same alike = absurd own
events_alike f g before others m v w valid valid' may might own other same alike = absurd same

pub calls_alike : (f g : First) (before others after more : List Turn) (t u : Turn) (m : ℕ) → Legal f (before ++ t ∷ after) → Legal g (others ++ u ∷ more)
    → IsCallOf (registry_of f before) m t.event → IsCallOf (registry_of g others) m u.event → SameCall t.event u.event → SeesAlike m (state_of f before) (state_of g others) → SameAnswer t.event u.event
calls_alike f g before others after more t u m legal legal' own other same alike =
    events_alike f g before others m t.event u.event
    (state_valid f before (legal_before f before (t ∷ after) legal)) (state_valid g others (legal_before g others (u ∷ more) legal'))
    (comes f before after t legal).event (comes g others more u legal').event own other same alike

-- What is left as it is.

left_itself : (m : ℕ) (s : State) → LeavesOthers m s s
left_itself m s = record { members = λ n far. refl; staff = λ n. refl; rest = refl }

left_by : (m : ℕ) (s : State) (v : Event) → IsCallOf s.registry m v → LeavesOthers m s (run s (entry_in v))
left_by m s (Edit e d) own = others_kept s e.value m own
left_by m s (Question q a) own = left_itself m s
left_by m s (Install upto) own = absurd own
left_by m s (Fault count) own = absurd own

pub others_left : (f : First) (before : List Turn) (t : Turn) (m : ℕ) → IsCallOf (registry_of f before) m t.event → LeavesOthers m (state_of f before) (state_of f (before ++ t ∷ []))
others_left f before t m own = subst (LeavesOthers m (state_of f before)) (sym (state_snoc f before t)) (left_by m (state_of f before) t.event own)
